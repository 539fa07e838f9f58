mod Answered
mod Calls
mod Handles
mod Puts
mod Texts
