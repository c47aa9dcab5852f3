pub mod Formed
pub mod Kinds
pub mod Laws
pub mod Parts
pub mod Preface
pub mod Readable
pub mod Records
