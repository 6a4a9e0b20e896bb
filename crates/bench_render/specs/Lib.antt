pub mod BenchRender
