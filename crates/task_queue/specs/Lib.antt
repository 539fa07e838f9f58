pub mod Queued
