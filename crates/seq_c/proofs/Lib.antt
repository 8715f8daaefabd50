pub mod HostSteps
