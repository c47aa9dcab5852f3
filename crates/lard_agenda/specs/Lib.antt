pub mod Kinds
pub mod Agenda
pub mod Laws
