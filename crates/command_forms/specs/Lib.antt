pub mod Shapes
pub mod Values
pub mod Forms
pub mod Entered
pub mod Entering
pub mod Given
