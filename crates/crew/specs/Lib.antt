pub mod Origins
pub mod Lists
pub mod Workers
pub mod WorkerSteps
pub mod Gates
pub mod Runs
