pub mod Services
pub mod Rules
pub mod Plans
pub mod code
