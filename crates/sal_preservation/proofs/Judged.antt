-- What typing must give of expressions: where an expression has a type, so have its parts, in these ways.
use Rattle.std.specs.Prelude.{◌≡◌, ℕ, suc, ◌⊎◌, List, [], ◌∷◌, Option, Some, None}
use Rattle.sal_value.specs.declared.value.Base.{Base}
use Rattle.sal_value.specs.declared.value.Base.TheVariants as base
use Rattle.sal_value.specs.declared.value.Sort.{Sort}
use Rattle.sal_ast.specs.declared.expression.Op.{Op}
use Rattle.sal_ast.specs.declared.expression.Op.TheVariants as op
use Rattle.sal_ast.specs.declared.expression.Expr.{Expr}
use Rattle.sal_ast.specs.declared.expression.Suffix.{Suffix}
use Rattle.sal_ast.specs.declared.expression.At.{At}
use Rattle.sal_ast.specs.declared.expression.Operand.{Operand}
use Rattle.sal_ast.specs.declared.expression.Expr.TheOpen.{Expr-F, Suffix-F}
use Rattle.sal_ast.specs.declared.expression.Expr.TheViews.{roll-Expr, roll-Suffix}
use Rattle.sal_ast.specs.Members.{behavior_by_name}
use Rattle.sal_ast.specs.Sorts.{Scope, name_sort, field_sort, type_sort}

-- null has no type of its own
abbrev pub Kind : Type 0
Kind = Option Sort

abbrev pub int : Sort
int = record { base = base.Int; dims = 0 }

abbrev pub boolean : Sort
boolean = record { base = base.Bool; dims = 0 }

abbrev pub text : Sort
text = record { base = base.Str; dims = 0 }

abbrev pub actor : ℕ → Sort
actor n = record { base = base.Actor n; dims = 0 }

-- null to behaviour types, and each type to itself
abbrev pub Assignable : Kind → Sort → Type 0
Assignable None t = (n : ℕ) × (actor n ≡ t)
Assignable (Some s) t = s ≡ t

-- what an operator gives
abbrev pub OperatorOf : Op → Kind → Kind → Sort → Type 0
OperatorOf op.Or a b t = (b ≡ Some boolean) × (boolean ≡ t)
OperatorOf op.And a b t = (b ≡ Some boolean) × (boolean ≡ t)
OperatorOf op.Add a b t = ((int ≡ t) × ((a ≡ Some int) × (b ≡ Some int))) ⊎ ((text ≡ t) × ((a ≡ Some text) ⊎ (b ≡ Some text)))
OperatorOf op.Sub a b t = int ≡ t
OperatorOf op.Mul a b t = int ≡ t
OperatorOf op.Div a b t = int ≡ t
OperatorOf op.Rem a b t = int ≡ t
OperatorOf op.Same a b t = boolean ≡ t
OperatorOf op.Other a b t = boolean ≡ t
OperatorOf op.Less a b t = boolean ≡ t
OperatorOf op.LessEq a b t = boolean ≡ t
OperatorOf op.Greater a b t = boolean ≡ t
OperatorOf op.GreaterEq a b t = boolean ≡ t

-- expressions have kinds where they stand, and a suffix makes one kind of another
module _ (J : Expr → Scope → Kind → Type 0) (JS : Suffix → Scope → Kind → Kind → Type 0) (makes : ℕ → List Sort) where
  abbrev pub HasKind : Expr → Scope → Type 0
  HasKind e env = (k : Kind) × J e env k

  abbrev pub ItemOf : Expr → Scope → Sort → Type 0
  ItemOf e env t = (k : Kind) × (J e env k × Assignable k t)

  abbrev pub ItemsOf : List Expr → Scope → Sort → Type 0
  ItemsOf [] env t = Unit {0}
  ItemsOf (e ∷ es) env t = ItemOf e env t × ItemsOf es env t

  abbrev pub ArgsOf : List Expr → Scope → List Sort → Type 0
  ArgsOf [] env [] = Unit {0}
  ArgsOf [] env (t ∷ ts) = ⊥
  ArgsOf (e ∷ es) env [] = ⊥
  ArgsOf (e ∷ es) env (t ∷ ts) = ItemOf e env t × ArgsOf es env ts

  abbrev pub LevelOf : List Operand → Scope → Kind → Kind → Type 0
  LevelOf [] env a k = a ≡ k
  LevelOf (p ∷ ps) env a k = (b : Kind) × ((t : Sort) × (J p.value env b × (OperatorOf p.op a b t × LevelOf ps env (Some t) k)))

  abbrev pub SuffixesOf : List Suffix → Scope → Kind → Kind → Type 0
  SuffixesOf [] env a k = a ≡ k
  SuffixesOf (x ∷ xs) env a k = (b : Kind) × (JS x env a b × SuffixesOf xs env b k)

  abbrev pub MaybeOf : Option Expr → Scope → Type 0
  MaybeOf None env = Unit {0}
  MaybeOf (Some e) env = HasKind e env

  abbrev pub PlaceOf : Option At → Scope → Type 0
  PlaceOf None env = Unit {0}
  PlaceOf (Some p) env = HasKind p.uan env × MaybeOf p.ual env

  -- an array of the type
  abbrev pub ArrayOf : Option Sort → Kind → Base → ℕ → Type 0
  ArrayOf t k b d = (t ≡ Some (record { base = b; dims = suc d })) × (t ≡ k)

  -- what holds of the parts of a form with this kind
  abbrev pub Inverts : Expr-F Expr Suffix At Operand → Scope → Kind → Type 0
  Inverts (Expr-F.Number n at) env k = Some int ≡ k
  Inverts (Expr-F.Str t at) env k = Some text ≡ k
  Inverts (Expr-F.Bool b at) env k = Some boolean ≡ k
  Inverts (Expr-F.Null at) env k = None ≡ k
  Inverts (Expr-F.Me at) env k = Some (actor env.mine) ≡ k
  Inverts (Expr-F.Name name) env k = (t : Sort) × ((name_sort name.text env ≡ Some t) × (Some t ≡ k))
  Inverts (Expr-F.Own at name) env k = (t : Sort) × ((field_sort name.text env ≡ Some t) × (Some t ≡ k))
  Inverts (Expr-F.Paren at e) env k = J e env k
  Inverts (Expr-F.Neg at e) env k = HasKind e env × (Some int ≡ k)
  Inverts (Expr-F.Not at e) env k = HasKind e env × (Some boolean ≡ k)
  Inverts (Expr-F.Level first rest) env k = (a : Kind) × (J first env a × LevelOf rest env a k)
  Inverts (Expr-F.Suffixed first rest) env k = (a : Kind) × (J first env a × SuffixesOf rest env a k)
  Inverts (Expr-F.New at behavior args place) env k = (n : ℕ) × ((behavior_by_name behavior.text env.behaviors ≡ Some n) × (ArgsOf args env (makes n) × (PlaceOf place env × (Some (actor n) ≡ k))))
  Inverts (Expr-F.Make at sort size) env k = (b : Base) × ((d : ℕ) × (HasKind size env × ArrayOf (type_sort sort env.behaviors) k b d))
  Inverts (Expr-F.ListOf at sort items) env k = (b : Base) × ((d : ℕ) × (ItemsOf items env (record { base = b; dims = d }) × ArrayOf (type_sort sort env.behaviors) k b d))
  Inverts (Expr-F.ByName at cast behavior name) env k = (n : ℕ) × (HasKind name env × (Some (actor n) ≡ k))

  -- an index makes an item of an array, and `.length` an int
  abbrev pub InvertsSuffix : Suffix-F Expr Suffix At Operand → Scope → Kind → Kind → Type 0
  InvertsSuffix (Suffix-F.Index at e) env a k = (b : Base) × ((d : ℕ) × ((Some (record { base = b; dims = suc d }) ≡ a) × ((Some (record { base = b; dims = d }) ≡ k) × HasKind e env)))
  InvertsSuffix (Suffix-F.Length at) env a k = Some int ≡ k

  -- typing gives this of each form
  pub record Judges : Type 0 where
    pub exprs : (z : Expr-F Expr Suffix At Operand) (env : Scope) (k : Kind) → J (roll-Expr z) env k → Inverts z env k
    pub suffixes : (z : Suffix-F Expr Suffix At Operand) (env : Scope) (a k : Kind) → JS (roll-Suffix z) env a k → InvertsSuffix z env a k
