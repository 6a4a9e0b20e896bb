pub mod Sid
