-- What document 02 asks of the calls, as theorems about what they promise: a file for each request, in the order of the document.
pub mod N2
pub mod N5
pub mod N8
pub mod N9
pub mod N12
