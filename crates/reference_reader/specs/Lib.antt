-- What the reader and the writer give, in the model's terms.
pub mod Reader
pub mod Utf8
