pub mod Edges
pub mod SixRows
pub mod InFaces
pub mod InFlags
