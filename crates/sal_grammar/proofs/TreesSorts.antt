-- The first token of a type.
use Rattle.std.proofs.Common.{◌≡◌, ◌⊎◌, inl, inr, ℕ, Bool, true, false, ◌||◌, List, [], ◌∷◌, ◌++◌, Option, Some, None, refl, sym, ap, ◌∙◌, subst}
use Rattle.std.specs.Prelude.{codes}
use Rattle.sal_ast.specs.declared.lexeme.Kind.{Kind}
use Rattle.sal_ast.specs.declared.lexeme.Kind.TheVariants as kind
use Rattle.sal_ast.specs.declared.program.BaseName.{BaseName}
use Rattle.sal_ast.specs.declared.program.BaseName.TheVariants as base
use Rattle.sal_ast.specs.declared.program.TypeName.{TypeName}
use Rattle.sal_ast.specs.Spell.{TreeToken, TreeTokens, spell_base, identifier}
use Rattle.sal_grammar.specs.declared.class.Class.{Class}
use Rattle.sal_grammar.specs.declared.class.Class.TheVariants as k
use Rattle.sal_grammar.specs.Tokens.{Token, Set, class_of}
use Rattle.sal_grammar.specs.Sets as is
use Rattle.sal_grammar.specs.Refusals.{Stands}
use Rattle.sal_grammar.specs.Expressions.{ident, base_of, type_of}
use Rattle.sal_grammar.proofs.Exactness.{differ}
use Rattle.sal_grammar.proofs.Languages.{Seq, One}
use Rattle.sal_grammar.proofs.TreesTokens.{class_at, name_class}
use Rattle.sal_grammar.proofs.TreesSteps.{Gives, Takes, take_one, class_token, name_token, gives_as}

abbrev word_of : Class → List ℕ
word_of k.Int = codes "int"
word_of k.Boolean = codes "boolean"
word_of _ = codes "String"

word_base : (c : Class) (text : List ℕ) (at : ℕ) → is.sort_word c ≡ true → record { kind = kind.Word; text = word_of c; at = Some at } ∷ [] ≡ spell_base (base_of c text) at
word_base k.Int text at h = refl
word_base k.Boolean text at h = refl
word_base k.Text text at h = refl
word_base _ text at h = absurd (differ (sym h))

-- an identifier is the name of a behaviour
pub name_base : (c : Class) (text : List ℕ) → is.id c ≡ true → base_of c text ≡ base.Actor text
name_base k.Int text h = absurd (differ (sym h))
name_base k.Boolean text h = absurd (differ (sym h))
name_base k.Text text h = absurd (differ (sym h))
name_base _ text h = refl

pub name_sort : (t : Token) → is.id (class_of t) ≡ true → identifier (ident t) ≡ spell_base (base_of (class_of t) t.text) t.at
name_sort t h = ap (λ z. spell_base z t.at) (sym (name_base (class_of t) t.text h))

pub word_token : Gives (One is.sort_word) (λ t. is.sort_word (class_of t) ≡ true) (λ t. spell_base (base_of (class_of t) t.text) t.at)
word_token = gives_as (λ t h. word_base (class_of t) t.text t.at h) (class_token kind.Word word_of refl refl)

pub actor_token : Gives (One is.id) (λ t. is.id (class_of t) ≡ true) (λ t. spell_base (base_of (class_of t) t.text) t.at)
actor_token = gives_as (λ t h. name_sort t h) name_token

either : (a b : Bool) → a || b ≡ true → (a ≡ true) ⊎ (b ≡ true)
either true b e = inl refl
either false b e = inr e

pub sort_token : Gives (One is.sort) (λ t. is.sort (class_of t) ≡ true) (λ t. spell_base (base_of (class_of t) t.text) t.at)
sort_token = record {
  fact = λ t u hl w. w.fits;
  spells = λ t u hl w. elim (either (is.sort_word (class_of t)) (is.id (class_of t)) w.fits) [
    | inl x ↦ word_token.spells t u hl (record { fits = x; alone = w.alone })
    | inr x ↦ actor_token.spells t u hl (record { fits = x; alone = w.alone })
  ];
}

-- ---- and back

abbrev pub is_actor : BaseName → Bool
is_actor base.Int = false
is_actor base.Boolean = false
is_actor base.Str = false
is_actor (base.Actor text) = true

word_is : (b : BaseName) (text : List ℕ) (c : Class) (dims at : ℕ) (t : Token) → class_of t ≡ c → base_of c t.text ≡ b → Stands (record { kind = kind.Word; text = text; at = Some at }) t
    → type_of t dims ≡ record { base = b; dims = dims; at = at }
word_is b text c dims at t e f s =
    ap (λ z. record { base = base_of z t.text; dims = dims; at = t.at }) e ∙ (ap (λ z. record { base = z; dims = dims; at = t.at }) f ∙ ap (λ z. record { base = b; dims = dims; at = z }) (sym s.place))

by_word : {C : Type 0} {V : Token → C → List Token → Type 0} {c : C} {q : TreeTokens} (b : BaseName) (text : List ℕ) (class : Class) (dims at : ℕ)
    → ((t : Token) → t.kind ≡ kind.Word → t.text ≡ text → class_of t ≡ class) → is.sort_word class ≡ true → ((u : List ℕ) → base_of class u ≡ b)
    → ((t : Token) → type_of t dims ≡ record { base = b; dims = dims; at = at } → Takes (V t) c q) → Takes (Seq (One is.sort_word) V) c (record { kind = kind.Word; text = text; at = Some at } ∷ q)
by_word b text class dims at h i j go =
    take_one (record { kind = kind.Word; text = text; at = Some at }) (λ t s. ap is.sort_word (h t (sym s.kind) (sym s.text)) ∙ i)
    (λ t s. go t (word_is b text class dims at t (h t (sym s.kind) (sym s.text)) (j t.text) s))

base_word : {C : Type 0} {V : Token → C → List Token → Type 0} {c : C} {q : TreeTokens} (b : BaseName) (dims at : ℕ) → is_actor b ≡ false
    → ((t : Token) → type_of t dims ≡ record { base = b; dims = dims; at = at } → Takes (V t) c q) → Takes (Seq (One is.sort_word) V) c (spell_base b at ++ q)
base_word base.Int dims at h go = by_word base.Int (codes "int") k.Int dims at (λ t x y. class_at t kind.Word (codes "int") x y) refl (λ u. refl) go
base_word base.Boolean dims at h go = by_word base.Boolean (codes "boolean") k.Boolean dims at (λ t x y. class_at t kind.Word (codes "boolean") x y) refl (λ u. refl) go
base_word base.Str dims at h go = by_word base.Str (codes "String") k.Text dims at (λ t x y. class_at t kind.Word (codes "String") x y) refl (λ u. refl) go
base_word (base.Actor text) dims at h go = absurd (differ h)

-- a type that begins with a word
pub take_word : {C : Type 0} {V : Token → C → List Token → Type 0} {c : C} {q : TreeTokens} (sort : TypeName) → is_actor sort.base ≡ false
    → ((t : Token) → type_of t sort.dims ≡ sort → Takes (V t) c q) → Takes (Seq (One is.sort_word) V) c (spell_base sort.base sort.at ++ q)
take_word sort h go = base_word sort.base sort.dims sort.at h go

base_actor : {C : Type 0} {V : Token → C → List Token → Type 0} {c : C} {q : TreeTokens} (b : BaseName) (dims at : ℕ) → is_actor b ≡ true
    → ((t : Token) → is.id (class_of t) ≡ true → type_of t dims ≡ record { base = b; dims = dims; at = at } → Takes (V t) c q) → Takes (Seq (One is.id) V) c (spell_base b at ++ q)
base_actor base.Int dims at h go = absurd (differ (sym h))
base_actor base.Boolean dims at h go = absurd (differ (sym h))
base_actor base.Str dims at h go = absurd (differ (sym h))
base_actor (base.Actor text) dims at h go =
    take_one (record { kind = kind.Id; text = text; at = Some at }) (λ t s. name_class t (sym s.kind))
    (λ t s. go t (name_class t (sym s.kind))
    (ap (λ z. record { base = z; dims = dims; at = t.at }) (name_base (class_of t) t.text (name_class t (sym s.kind)))
    ∙ (ap (λ z. record { base = base.Actor z; dims = dims; at = t.at }) (sym s.text) ∙ ap (λ z. record { base = base.Actor text; dims = dims; at = z }) (sym s.place))))

-- a type that begins with the name of a behaviour
pub take_actor : {C : Type 0} {V : Token → C → List Token → Type 0} {c : C} {q : TreeTokens} (sort : TypeName) → is_actor sort.base ≡ true
    → ((t : Token) → is.id (class_of t) ≡ true → type_of t sort.dims ≡ sort → Takes (V t) c q) → Takes (Seq (One is.id) V) c (spell_base sort.base sort.at ++ q)
take_actor sort h go = base_actor sort.base sort.dims sort.at h go
