-- Legal values, where that they are legal is asked for: what operators give.
use Rattle.std.proofs.Common.{◌≡◌, ℕ, zero, suc, ℤ, Bool, true, List, [], ◌∷◌, Ok}
use Rattle.sal_value.specs.declared.name.Name.{Name}
use Rattle.sal_value.specs.declared.value.Value.{Value}
use Rattle.sal_value.specs.declared.value.Value.TheVariants as v
use Rattle.sal_value.specs.Spelling.{name_is_spelled}
use Rattle.sal_ast.specs.declared.expression.Op.{Op}
use Rattle.sal_ast.specs.declared.program.TypeName.{TypeName}
use Rattle.sal_handler.specs.Values as w
use Rattle.sal_handler.specs.WellFormed.{EachOf, Legal}
use Rattle.sal_handler.proofs.Legal as l

module _ (Asked : Type 0) where
  abbrev pub Lawful : Value → Type 0
  Lawful x = Asked → Legal x

  pub lawful_null : Lawful v.Null
  lawful_null = λ q. l.legal_null

  pub lawful_int : (n : ℤ) → Lawful (v.Int n)
  lawful_int n = λ q. l.legal_int n

  pub lawful_bool : (b : Bool) → Lawful (v.Bool b)
  lawful_bool b = λ q. l.legal_bool b

  pub lawful_ref : (n : Name) → (Asked → name_is_spelled n ≡ true) → Lawful (v.Ref n)
  lawful_ref n e = λ q. l.legal_ref n (e q)

  pub made_lawful : (x y : Value) → w.within_limits x ≡ Ok y → Lawful y
  made_lawful x y e = λ q. l.made_legal x y e

  pub at_lawful : (items : List Value) (i : ℕ) → EachOf Lawful items → Lawful (w.item_at items i)
  at_lawful [] i p = lawful_null
  at_lawful (x ∷ xs) zero p = p.0
  at_lawful (x ∷ xs) (suc i) p = at_lawful xs i p.1

  pub item_lawful : (x y : Value) (n : ℤ) → Lawful x → w.item x n ≡ Ok y → Lawful y
  item_lawful x y n h e = λ q. l.item_legal x y n (h q) e

  pub operate_lawful : (o : Op) (a b y : Value) → Lawful b → w.operate o a b ≡ Ok y → Lawful y
  operate_lawful o a b y h e = λ q. l.operate_legal o a b y (h q) e

  pub assigned_lawful : (old : Value) (is : List ℤ) (new y : Value) → Lawful new → w.value_after_assign old is new ≡ Ok y → Lawful y
  assigned_lawful old is new y h e = λ q. l.assigned_legal old is new y (h q) e

  pub array_lawful : (t : TypeName) (n : ℤ) (y : Value) → w.new_array t n ≡ Ok y → Lawful y
  array_lawful t n y e = λ q. l.array_legal t n y e

  pub default_lawful : (t : TypeName) → Lawful (w.default_of t)
  default_lawful t = λ q. l.default_legal t
