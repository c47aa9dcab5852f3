pub mod Recv
