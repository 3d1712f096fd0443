-- Why a text is refused, and where: its refusal stands at the first byte that no lexical rule lets pass.
use Rattle.std.specs.Prelude.{◌≡◌, ℕ, ◌+◌, ◌-◌, ◌<◌, ◌≤◌, true, false, ◌&&◌, not, nat_eq, List, ◌∷◌, ◌++◌, length, take, Some, ◌⊎◌}
use Rattle.std.specs.Str.{IsUtf8}
use Rattle.std.specs.Str.Lossy.{utf8_valid_len}
use Rattle.sal_ast.specs.Lexemes.{is_number}
use Rattle.sal_text.specs.declared.token.LexRule.{LexRule}
use Rattle.sal_text.specs.declared.token.LexRule.TheVariants as rule
use Rattle.sal_text.specs.declared.token.LexFault.{LexFault}
use Rattle.sal_text.specs.declared.token.LexFault.TheVariants as fault
use Rattle.sal_text.specs.Values.{bad_escape}
use Rattle.sal_text.specs.Tokens.{is_blank, is_digits, is_string, is_form, IsLongest, holds_end, Part, Cuts, begins}
use Rattle.sal_ast.specs.declared.constants.TheConstants.{LONGEST_PROGRAM}

-- the text has too many bytes, the first of them at 262,144, or it isn't UTF-8, and this is the first byte of
-- the first ill-formed sequence
abbrev pub IsNoText : List ℕ → ℕ → Type 0
IsNoText text at =
    ((LONGEST_PROGRAM < length text) × (at ≡ LONGEST_PROGRAM))
    ⊎ ((length text ≤ LONGEST_PROGRAM) × ((IsUtf8 text → ⊥) × (at ≡ utf8_valid_len text)))

-- a character that is no blank and no quote, with which no token begins
pub record IsStrange (text : List ℕ) : Type 0 where
  pub other : begins (λ c. not (is_blank c) && not (nat_eq c 34)) text ≡ true
  pub none : (n : ℕ) → is_form (take n text) ≡ false

-- a quote with which no string begins
pub record IsUnclosedString (text : List ℕ) : Type 0 where
  pub quote : begins (λ c. nat_eq c 34) text ≡ true
  pub none : (n : ℕ) → is_string (take n text) ≡ false

-- a run of digits, as long as can be, that is no number
pub record IsBadNumber (text : List ℕ) : Type 0 where
  pub digits : List ℕ
  pub behind : List ℕ
  pub spelled : text ≡ digits ++ behind
  pub form : is_digits digits ≡ true
  pub longest : IsLongest digits behind
  pub bad : is_number digits ≡ false

-- `/*` without a `*/` after it
pub record IsUnclosedComment (text : List ℕ) : Type 0 where
  pub inside : List ℕ
  pub spelled : text ≡ 47 ∷ 42 ∷ inside
  pub none : holds_end inside ≡ false

-- a string whose first bad escape stands at this place
pub record IsBadString (text : List ℕ) (place : ℕ) : Type 0 where
  pub string : List ℕ
  pub behind : List ℕ
  pub spelled : text ≡ string ++ behind
  pub form : is_string string ≡ true
  pub bad : bad_escape string ≡ Some place

-- at this place of what is left the rule is violated
abbrev pub Violates : LexRule → List ℕ → ℕ → Type 0
Violates rule.L0 rest place = ⊥
Violates rule.L1 rest place = (place ≡ 0) × IsStrange rest
Violates rule.L2 rest place = (place ≡ 0) × IsUnclosedString rest
Violates rule.L3 rest place = (place ≡ 0) × IsBadNumber rest
Violates rule.L4 rest place = (place ≡ 0) × IsUnclosedComment rest
Violates rule.L5 rest place = IsBadString rest place

-- the text is cut into good parts as far as they go, and what is left begins with a violation
pub record IsCutShort (rule : LexRule) (at : ℕ) (text : List ℕ) : Type 0 where
  pub fits : length text ≤ LONGEST_PROGRAM
  pub utf8 : IsUtf8 text
  pub parts : List Part
  pub rest : List ℕ
  pub cut : Cuts parts text rest
  pub place : ℕ
  pub violates : Violates rule rest place
  pub there : at ≡ length text - length rest + place

-- the text's refusal
abbrev pub Refuses : LexRule → ℕ → List ℕ → Type 0
Refuses rule.L0 at text = IsNoText text at
Refuses rule.L1 at text = IsCutShort rule.L1 at text
Refuses rule.L2 at text = IsCutShort rule.L2 at text
Refuses rule.L3 at text = IsCutShort rule.L3 at text
Refuses rule.L4 at text = IsCutShort rule.L4 at text
Refuses rule.L5 at text = IsCutShort rule.L5 at text

-- the answer is the text's refusal, or that memory ran out
abbrev pub IsRefusal : List ℕ → LexFault → Type 0
IsRefusal text (fault.Refused rule at) = Refuses rule at text
IsRefusal text fault.Memory = Unit {0}
