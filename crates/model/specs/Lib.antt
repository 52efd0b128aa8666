-- The seat-rule finder: document 01 as definitions, a file for each of its sections ("Forward step" is in the crate `shift_and`), the codes of note 9, the rewriter of note 10,
-- whole names and LIKE of note 2, the turns of note 13, and the raw places of note 7. `Examples` are closed cases of them.
pub mod Ascii
pub mod Occurrence
pub mod RefusalNumbers
pub mod RuleText
pub mod Spelling
pub mod NumberedAnswers
pub mod Rewriter
pub mod WholeNames
pub mod Like
pub mod Codes
pub mod References
pub mod RawPlaces
pub mod PlainScan
pub mod WindowSearch
pub mod Turns
pub mod MarkedTable
pub mod Examples
