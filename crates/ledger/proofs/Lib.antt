-- Laws, and sheets.
pub mod Filling
pub mod Signs
pub mod Rooms
pub mod Reasons
pub mod Whole
pub mod Entering
pub mod Balance
pub mod Lacking
pub mod Quiet
mod Sheets
