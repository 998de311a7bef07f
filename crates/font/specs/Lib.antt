pub mod Factory
