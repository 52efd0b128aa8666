-- Laws of the decoder.
pub mod DecodeLaws
