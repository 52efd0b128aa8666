-- Document 01, "References": forms, what they decode to, and the tail that a scan holds back between pieces. The length limit of a form is a parameter,
-- `limit`, of every definition; `form_limit` is this paper's. Assumes nothing.
use Rattle.std.specs.Prelude.{Bool, true, false, not, cond, ◌&&◌, ◌||◌, List, [], ◌∷◌, ◌++◌, ℕ, zero, suc, pred, ◌+◌, ◌-◌, ◌*◌, ◌/◌, ◌%◌, ◌≤◌, T, leb, ltb, eqb, length, take, drop}
use Rattle.model.specs.Ascii.{byte_of, ascii}
use Rattle.model.specs.Occurrence.{all}
use Rattle.model.specs.RuleText.{is_decimal}

-- "at most 32 bytes from `&` to `;`, leading zeros included"
abbrev pub form_limit : ℕ
form_limit = 32

-- "at most 31 bytes" are held back: a form lacks one byte at least.
abbrev pub held_most : (limit : ℕ) → ℕ
held_most limit = limit - 1

-- ---- forms, "by its spelling alone"

-- "hexadecimal digits of either case"
abbrev pub is_hexadecimal : ℕ → Bool
is_hexadecimal c = is_decimal c || (leb 65 c && leb c 70) || (leb 97 c && leb c 102)

abbrev pub digit_value : ℕ → ℕ
digit_value c = cond (is_decimal c) (c - 48) (cond (leb c 70) (c - 55) (c - 87))

-- The number that digits spell in a base, after those that spelt `value`.
abbrev pub digits_from : (base value : ℕ) → List ℕ → ℕ
digits_from base value [] = value
digits_from base value (c ∷ cs) = digits_from base (value * base + digit_value c) cs

-- "A form is `&amp;`, `&lt;`, `&gt;`, `&apos;`, `&quot;`, or `&#` decimal digits `;`, or `&#x` hexadecimal digits of either case `;`, with at least one
-- digit": its bytes, and its number.
pub data Form : List ℕ → ℕ → Type 0 where
  amp : Form (ascii "&amp;") 38
  lt : Form (ascii "&lt;") 60
  gt : Form (ascii "&gt;") 62
  apos : Form (ascii "&apos;") 39
  quot : Form (ascii "&quot;") 34
  decimal : (d : ℕ) (ds : List ℕ) → T (all is_decimal (d ∷ ds)) → Form (ascii "&#" ++ (d ∷ ds) ++ ascii ";") (digits_from 10 0 (d ∷ ds))
  hexadecimal : (d : ℕ) (ds : List ℕ) → T (all is_hexadecimal (d ∷ ds)) → Form (ascii "&#x" ++ (d ∷ ds) ++ ascii ";") (digits_from 16 0 (d ∷ ds))

-- The form at the head of a list, as a test: its number, and how many bytes spell it.
pub data Found : Type 0 where
  none : Found
  found : (number bytes : ℕ) → Found

abbrev pub begins_with : List ℕ → List ℕ → Bool
begins_with [] cs = true
begins_with (b ∷ bs) [] = false
begins_with (b ∷ bs) (c ∷ cs) = eqb b c && begins_with bs cs

-- Digits up to a `;`, after `bytes` bytes, of them `digits` digits that spelt `value`.
abbrev pub number_from : (ℕ → Bool) → (base value bytes digits : ℕ) → List ℕ → Found
number_from ok base value bytes digits [] = none
number_from ok base value bytes digits (c ∷ cs) = elim (ok c) [
  | true ↦ number_from ok base (value * base + digit_value c) (suc bytes) (suc digits) cs
  | false ↦ cond (eqb c (byte_of ";") && leb 1 digits) (found value (suc bytes)) none
]

abbrev pub spelt : List ℕ → Found
spelt cs =
    cond (begins_with (ascii "&amp;") cs) (found 38 5)
    (cond (begins_with (ascii "&lt;") cs) (found 60 4)
    (cond (begins_with (ascii "&gt;") cs) (found 62 4)
    (cond (begins_with (ascii "&apos;") cs) (found 39 6)
    (cond (begins_with (ascii "&quot;") cs) (found 34 6)
    (cond (begins_with (ascii "&#x") cs) (number_from is_hexadecimal 16 0 3 0 (drop 3 cs))
    (cond (begins_with (ascii "&#") cs) (number_from is_decimal 10 0 2 0 (drop 2 cs))
    none))))))

abbrev pub within : (limit : ℕ) → Found → Found
within limit none = none
within limit (found n k) = cond (leb k limit) (found n k) none

abbrev pub form_at : (limit : ℕ) → List ℕ → Found
form_at limit cs = within limit (spelt cs)

-- ---- what a form decodes to

-- "a Char of XML 1.0: 9, 10, 13, 32 to 55295, 57344 to 65533, 65536 to 1114111"
abbrev pub is_char : ℕ → Bool
is_char n = eqb n 9 || eqb n 10 || eqb n 13 || (leb 32 n && leb n 55295) || (leb 57344 n && leb n 65533) || (leb 65536 n && leb n 1114111)

-- "its UTF-8 bytes, 1 to 4 of them". Shut, so that its text stays out of goals.
unfoldable pub utf8 : ℕ → List ℕ
utf8 n =
    cond (ltb n 128) (n ∷ [])
    (cond (ltb n 2048) ((192 + n / 64) ∷ (128 + n % 64) ∷ [])
    (cond (ltb n 65536) ((224 + n / 4096) ∷ (128 + n / 64 % 64) ∷ (128 + n % 64) ∷ [])
    ((240 + n / 262144) ∷ (128 + n / 4096 % 64) ∷ (128 + n / 64 % 64) ∷ (128 + n % 64) ∷ [])))

-- "else to U+FFFD (bytes EF BF BD in hexadecimal)"
abbrev pub replacement : ℕ
replacement = 65533

-- "It decodes to its number if that is a Char ..; else to U+FFFD"
abbrev pub decodes_to : ℕ → ℕ
decodes_to n = cond (is_char n) n replacement

-- "Every form is decoded, and is a legal reference": what becomes of a form of number n and k bytes.
abbrev pub legal : (n k : ℕ) → Found
legal n k = found (decodes_to n) k

abbrev pub legal_by : Found → Found
legal_by none = none
legal_by (found n k) = legal n k

abbrev pub reference_at : (limit : ℕ) → List ℕ → Found
reference_at limit cs = legal_by (form_at limit cs)

-- "a legal reference there gives its bytes and reading goes on after its `;`; any other byte is kept": how many raw bytes are taken, and what they give.
pub record Token : Type 0 where
  pub takes : ℕ
  pub gives : List ℕ

-- A byte that is kept, and bytes that are kept one by one.
abbrev pub byte_token : ℕ → Token
byte_token c = record { takes = 1; gives = c ∷ [] }

abbrev pub byte_tokens : List ℕ → List Token
byte_tokens [] = []
byte_tokens (c ∷ cs) = byte_token c ∷ byte_tokens cs

abbrev pub token_by : (c : ℕ) → Found → Token
token_by c none = byte_token c
token_by c (found n k) = record { takes = k; gives = utf8 n }

-- "A plan decodes from its first byte on". The first `skip` bytes belong to a token already read.
abbrev pub tokens_from : (limit skip : ℕ) → List ℕ → List Token
tokens_from limit skip [] = []
tokens_from limit (suc k) (c ∷ cs) = tokens_from limit k cs
tokens_from limit zero (c ∷ cs) =
    let t = token_by c (reference_at limit (c ∷ cs)) in
    t ∷ tokens_from limit (pred t.takes) cs

-- The raw bytes that tokens take, and the text that they give.
abbrev pub taken : List Token → ℕ
taken [] = 0
taken (t ∷ ts) = t.takes + taken ts

abbrev pub joined : List Token → List ℕ
joined [] = []
joined (t ∷ ts) = t.gives ++ joined ts

abbrev pub decode : (limit : ℕ) → List ℕ → List ℕ
decode limit cs = joined (tokens_from limit 0 cs)

-- ---- the tail held back

-- Every form starts with `&`, and has no other: a byte that begins none, and stands in none but first.
abbrev pub not_amp : ℕ → Bool
not_amp c = not (eqb c (byte_of "&"))

-- It "could still grow into a form": one byte more, at least, would make it one.
pub record CanGrow (limit : ℕ) (cs : List ℕ) : Type 0 where
  pub more : ℕ
  pub rest : List ℕ
  pub number : ℕ
  pub form : Form (cs ++ (more ∷ rest)) number
  pub short : length (cs ++ (more ∷ rest)) ≤ limit

-- The same as a test, for a list that is not empty: it is a shorter beginning of a name's form ..
abbrev pub shorter_of : List ℕ → List ℕ → Bool
shorter_of bs [] = false
shorter_of [] (c ∷ cs) = true
shorter_of (b ∷ bs) (c ∷ cs) = eqb b c && shorter_of bs cs

abbrev pub grows_name : (limit : ℕ) (name : List ℕ) → List ℕ → Bool
grows_name limit name cs = shorter_of cs name && leb (length name) limit

-- .. or digits alone follow the mark, and there is room for what they lack: a `;`, and a digit before it if there is none.
abbrev pub lacking : (digits : List ℕ) → ℕ
lacking [] = 2
lacking (d ∷ ds) = 1

abbrev pub grows_number : (limit : ℕ) (mark : List ℕ) → (ℕ → Bool) → List ℕ → Bool
grows_number limit mark ok cs = begins_with mark cs && all ok (drop (length mark) cs) && leb (length cs + lacking (drop (length mark) cs)) limit

abbrev pub can_grow : (limit : ℕ) → List ℕ → Bool
can_grow limit [] = false
can_grow limit (c ∷ cs) =
    grows_name limit (ascii "&amp;") (c ∷ cs)
    || (grows_name limit (ascii "&lt;") (c ∷ cs)
    || (grows_name limit (ascii "&gt;") (c ∷ cs)
    || (grows_name limit (ascii "&apos;") (c ∷ cs)
    || (grows_name limit (ascii "&quot;") (c ∷ cs)
    || (grows_number limit (ascii "&#") is_decimal (c ∷ cs)
    || grows_number limit (ascii "&#x") is_hexadecimal (c ∷ cs))))))

-- "the longest tail that starts with `&` and could still grow into a form"; empty if there is none. (Every form starts with `&`.)
abbrev pub held_tail : (limit : ℕ) → List ℕ → List ℕ
held_tail limit [] = []
held_tail limit (c ∷ cs) = elim (can_grow limit (c ∷ cs)) [ true ↦ c ∷ cs | false ↦ held_tail limit cs ]

abbrev pub without_tail : (limit : ℕ) → List ℕ → List ℕ
without_tail limit cs = take (length cs - length (held_tail limit cs)) cs

-- What bytes let out between pieces: the tokens of them without their held tail, and the text that those give.
abbrev pub out_tokens : (limit : ℕ) → List ℕ → List Token
out_tokens limit cs = tokens_from limit 0 (without_tail limit cs)

abbrev pub let_out : (limit : ℕ) → List ℕ → List ℕ
let_out limit cs = joined (out_tokens limit cs)
