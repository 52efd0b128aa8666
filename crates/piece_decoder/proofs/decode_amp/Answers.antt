-- The goals of `decode_amp` that want a law of this crate.
use Rattle.piece_decoder.proofs.TokenLaws.{code_fits, code-after, token-decoded, token_literal, token_incomplete}
use borrow.Author.Rules.{rules}
use Rattle.piece_decoder.proofs.decode_amp.Goals as goal

pub put_utf8-n-requires : goal.put_utf8-n-requires
put_utf8-n-requires c = search code_fits

pub overflow_add-after : goal.overflow_add-after
overflow_add-after c = search (code-after, rules)

pub returns-in-Decoded : goal.returns-in-Decoded
returns-in-Decoded c = search token-decoded

pub returns-in-Literal : goal.returns-in-Literal
returns-in-Literal c = search token_literal

pub returns-in-Incomplete : goal.returns-in-Incomplete
returns-in-Incomplete c = search token_incomplete
