-- NOTE 2 about calls as they were made: what an import wrote covers a name exactly when LIKE accepts it. The theorem is `like-lists` of proofs/LikeLists. Assumes nothing.
use Rattle.std.specs.Prelude.{◌≡◌, ◌↔◌, List, ℕ, ◌≤◌, T, length, take}
use Rattle.model.specs.Occurrence.{all}
use Rattle.model.specs.RuleText.{is_byte}
use Rattle.model.specs.NumberedAnswers.{text_limit}
use Rattle.model.specs.Like.{LikeItem, Like, is_like, pattern, like}
use Rattle.answers.specs.declared.Covered.{Covered}
use Rattle.answers.specs.declared.Text.{Text}
use Rattle.answers.specs.Answers.{judged_name}
use Rattle.whole_match.specs.Covering.{CoversIs}

-- Of a pattern and an import of it that answered r and left the buffer out'.
pub record LikeListed (cs : List ℕ) (r : Text) (out' : List ℕ) : Type 0 where
  pub items : List LikeItem
  pub reads : like cs ≡ pattern items
  -- "A name is taken as it comes, undecoded, and is covered by the imported rule, fold off, exactly when LIKE accepts it, case respected": asked whether the text
  -- that was written covers a name, the call answers by the test of LIKE, which decides it.
  pub answers : (name : List ℕ) → T (all is_byte name) → length name ≤ text_limit → (a : Covered) → CoversIs 0 (take r.length out') name a → a ≡ judged_name (is_like items name)
  pub decided : (name : List ℕ) → T (is_like items name) ↔ Like items name
