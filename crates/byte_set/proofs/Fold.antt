-- "Replace the table by the formula, proved to give each of its 256 entries": the constant table that stood in src/lib.rt before note 3, and what the code computes in
-- its place. Each law is tested once over all entries by computing and carried to each by `at`. Assumes nothing.
use mathlib.Core.Path.{◌≡◌, sym, ap, ◌∙◌}
use mathlib.Core.List.{List, [], ◌∷◌}
use mathlib.Core.Bool.{Bool, ◌&&◌, ◌||◌}
use Prim.Native.Nat.{ℕ, ◌*◌, ◌%◌, ◌<◌}
use lib.Bits.{bit_xor}
use lib.Dec.{leb, eqb, eqb→eq}
use lib.ListN.{get_or}
use mir.Val.{bool_byte}
use Rattle.model.specs.RuleText.{other_case}
use Rattle.byte_set.proofs.Table.{at}

-- "a letter's entry is its other case, every other byte's entry is itself"
unfoldable pub table : List ℕ
table =
    0 ∷ 1 ∷ 2 ∷ 3 ∷ 4 ∷ 5 ∷ 6 ∷ 7 ∷ 8 ∷ 9 ∷ 10 ∷ 11 ∷ 12 ∷ 13 ∷ 14 ∷ 15 ∷
    16 ∷ 17 ∷ 18 ∷ 19 ∷ 20 ∷ 21 ∷ 22 ∷ 23 ∷ 24 ∷ 25 ∷ 26 ∷ 27 ∷ 28 ∷ 29 ∷ 30 ∷ 31 ∷
    32 ∷ 33 ∷ 34 ∷ 35 ∷ 36 ∷ 37 ∷ 38 ∷ 39 ∷ 40 ∷ 41 ∷ 42 ∷ 43 ∷ 44 ∷ 45 ∷ 46 ∷ 47 ∷
    48 ∷ 49 ∷ 50 ∷ 51 ∷ 52 ∷ 53 ∷ 54 ∷ 55 ∷ 56 ∷ 57 ∷ 58 ∷ 59 ∷ 60 ∷ 61 ∷ 62 ∷ 63 ∷
    64 ∷ 97 ∷ 98 ∷ 99 ∷ 100 ∷ 101 ∷ 102 ∷ 103 ∷ 104 ∷ 105 ∷ 106 ∷ 107 ∷ 108 ∷ 109 ∷ 110 ∷ 111 ∷
    112 ∷ 113 ∷ 114 ∷ 115 ∷ 116 ∷ 117 ∷ 118 ∷ 119 ∷ 120 ∷ 121 ∷ 122 ∷ 91 ∷ 92 ∷ 93 ∷ 94 ∷ 95 ∷
    96 ∷ 65 ∷ 66 ∷ 67 ∷ 68 ∷ 69 ∷ 70 ∷ 71 ∷ 72 ∷ 73 ∷ 74 ∷ 75 ∷ 76 ∷ 77 ∷ 78 ∷ 79 ∷
    80 ∷ 81 ∷ 82 ∷ 83 ∷ 84 ∷ 85 ∷ 86 ∷ 87 ∷ 88 ∷ 89 ∷ 90 ∷ 123 ∷ 124 ∷ 125 ∷ 126 ∷ 127 ∷
    128 ∷ 129 ∷ 130 ∷ 131 ∷ 132 ∷ 133 ∷ 134 ∷ 135 ∷ 136 ∷ 137 ∷ 138 ∷ 139 ∷ 140 ∷ 141 ∷ 142 ∷ 143 ∷
    144 ∷ 145 ∷ 146 ∷ 147 ∷ 148 ∷ 149 ∷ 150 ∷ 151 ∷ 152 ∷ 153 ∷ 154 ∷ 155 ∷ 156 ∷ 157 ∷ 158 ∷ 159 ∷
    160 ∷ 161 ∷ 162 ∷ 163 ∷ 164 ∷ 165 ∷ 166 ∷ 167 ∷ 168 ∷ 169 ∷ 170 ∷ 171 ∷ 172 ∷ 173 ∷ 174 ∷ 175 ∷
    176 ∷ 177 ∷ 178 ∷ 179 ∷ 180 ∷ 181 ∷ 182 ∷ 183 ∷ 184 ∷ 185 ∷ 186 ∷ 187 ∷ 188 ∷ 189 ∷ 190 ∷ 191 ∷
    192 ∷ 193 ∷ 194 ∷ 195 ∷ 196 ∷ 197 ∷ 198 ∷ 199 ∷ 200 ∷ 201 ∷ 202 ∷ 203 ∷ 204 ∷ 205 ∷ 206 ∷ 207 ∷
    208 ∷ 209 ∷ 210 ∷ 211 ∷ 212 ∷ 213 ∷ 214 ∷ 215 ∷ 216 ∷ 217 ∷ 218 ∷ 219 ∷ 220 ∷ 221 ∷ 222 ∷ 223 ∷
    224 ∷ 225 ∷ 226 ∷ 227 ∷ 228 ∷ 229 ∷ 230 ∷ 231 ∷ 232 ∷ 233 ∷ 234 ∷ 235 ∷ 236 ∷ 237 ∷ 238 ∷ 239 ∷
    240 ∷ 241 ∷ 242 ∷ 243 ∷ 244 ∷ 245 ∷ 246 ∷ 247 ∷ 248 ∷ 249 ∷ 250 ∷ 251 ∷ 252 ∷ 253 ∷ 254 ∷ 255 ∷
    []

-- what `other_case` returns: 32 added or taken away is bit 5 turned round
abbrev pub formula : ℕ → ℕ
formula c = bit_xor c (bool_byte ((leb 65 c && leb c 90) || (leb 97 c && leb c 122)) * 32 % 256)

abbrev given : ℕ → ℕ → Bool
given k x = eqb (formula k) x

pub formula_gives-entry : (c : ℕ) → c < 256 → formula c ≡ get_or table c 0
unfolding table
formula_gives-entry c h = eqb→eq (formula c) (get_or table c 0) (at given table tt c h)

abbrev right : ℕ → ℕ → Bool
right k x = eqb x (other_case k)

pub fold_rule : (c : ℕ) → c < 256 → get_or table c 0 ≡ other_case c
unfolding table
fold_rule c h = eqb→eq (get_or table c 0) (other_case c) (at right table tt c h)

pub formula_is : (c : ℕ) → c < 256 → formula c ≡ other_case c
formula_is c h = formula_gives-entry c h ∙ fold_rule c h

-- the other case of the other case is the byte itself: tested over the same entries
abbrev back : ℕ → ℕ → Bool
back k x = eqb (other_case x) k

pub fold_twice : (c : ℕ) → c < 256 → other_case (other_case c) ≡ c
unfolding table
fold_twice c h = ap other_case (sym (fold_rule c h)) ∙ eqb→eq (other_case (get_or table c 0)) c (at back table tt c h)
