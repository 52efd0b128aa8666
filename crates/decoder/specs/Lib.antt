-- What the decoder gives, in the model's terms.
pub mod Decoder
