pub mod EditLaws
pub mod RowSteps
pub mod TimeLaws
pub mod MovieLaws
pub mod PresentationLaws
