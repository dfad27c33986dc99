pub mod InTask
