pub mod Program
pub mod Case
pub mod Five
pub mod Table
