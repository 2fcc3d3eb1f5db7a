pub mod KeptEvents
pub mod Current
