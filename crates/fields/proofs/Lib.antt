-- Laws of fields, whatever their form.
pub mod Cases
pub mod Places
pub mod Order
pub mod Contents
pub mod Written
