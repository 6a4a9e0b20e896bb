pub mod BenchPack
