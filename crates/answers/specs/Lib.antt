pub mod Shows
