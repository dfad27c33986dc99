pub mod Books
pub mod Results
