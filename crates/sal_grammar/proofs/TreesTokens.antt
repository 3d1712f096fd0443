-- Which kind and text the class of a token tells, and back.
use Rattle.std.proofs.Common.{◌≡◌, ◌⊎◌, inl, inr, ℕ, zero, suc, Bool, true, false, cond, ◌&&◌, ◌||◌, not, List, [], ◌∷◌, refl, sym, ap, ◌∙◌, subst}
use Rattle.std.specs.Prelude.{codes}
use Rattle.std.specs.List.{list_all}
use Rattle.std.specs.Str.{bytes_eq}
use Rattle.std.proofs.lemmas.Slice.Eq.{bytes_eq-Decides}
use Rattle.sal_ast.specs.declared.lexeme.Kind.{Kind}
use Rattle.sal_ast.specs.declared.lexeme.Kind.TheVariants as kind
use Rattle.sal_grammar.specs.declared.class.Class.{Class}
use Rattle.sal_grammar.specs.declared.class.Class.TheVariants as k
use Rattle.sal_grammar.specs.Tokens.{Token, Set, Entry, words, signs, identifiers, class_in, class_by, class_of, word_class, sign_class, identifier_class}
use Rattle.sal_grammar.specs.Sets as is
use Rattle.sal_grammar.proofs.Exactness.{differ}

-- ---- tests

pub left_true : (a b : Bool) → a && b ≡ true → a ≡ true
left_true true b e = refl
left_true false b e = e

pub right_true : (a b : Bool) → a && b ≡ true → b ≡ true
right_true true b e = e
right_true false b e = absurd (differ (sym e))

pub both_true : (a b : Bool) → a ≡ true → b ≡ true → a && b ≡ true
both_true true b e h = h
both_true false b e h = e

not_true : (b : Bool) → not b ≡ true → b ≡ false
not_true true e = sym e
not_true false e = refl

or_case : (a b : Bool) → a || b ≡ true → (a ≡ true) ⊎ (b ≡ true)
or_case true b e = inl refl
or_case false b e = inr e

then_true : (a b : Bool) → not a || b ≡ true → a ≡ true → b ≡ true
then_true true b h e = h
then_true false b h e = absurd (differ (sym e))

-- ---- the tables by kind

abbrev pub entries : Kind → List Entry
entries kind.Word = words
entries kind.Id = identifiers
entries kind.Number = []
entries kind.Str = []
entries kind.Sign = signs

-- the class of the texts that no table has
abbrev pub other : Kind → Class
other kind.Word = k.Unused
other kind.Id = k.Id
other kind.Number = k.Number
other kind.Str = k.Str
other kind.Sign = k.Unused

abbrev pub table_class : Kind → List ℕ → Class
table_class kd text = class_in (entries kd) (other kd) text

class_table : (kd : Kind) (text : List ℕ) → class_by kd text ≡ table_class kd text
unfolding word_class sign_class identifier_class
class_table kind.Word text = refl
class_table kind.Id text = refl
class_table kind.Number text = refl
class_table kind.Str text = refl
class_table kind.Sign text = refl

pub class_is : (t : Token) → class_of t ≡ table_class t.kind t.text
unfolding class_of
class_is t = class_table t.kind t.text

-- the class of a token with this kind and text
pub class_at : (t : Token) (kd : Kind) (text : List ℕ) → t.kind ≡ kd → t.text ≡ text → class_of t ≡ table_class kd text
class_at t kd text ek et = class_is t ∙ (ap (λ z. table_class z t.text) ek ∙ ap (λ z. table_class kd z) et)

-- ---- the kind

abbrev same_kind : Kind → Kind → Bool
same_kind kind.Word kind.Word = true
same_kind kind.Id kind.Id = true
same_kind kind.Number kind.Number = true
same_kind kind.Str kind.Str = true
same_kind kind.Sign kind.Sign = true
same_kind _ _ = false

same_kind_is : (a b : Kind) → same_kind a b ≡ true → a ≡ b
same_kind_is kind.Word kind.Word e = refl
same_kind_is kind.Id kind.Id e = refl
same_kind_is kind.Number kind.Number e = refl
same_kind_is kind.Str kind.Str e = refl
same_kind_is kind.Sign kind.Sign e = refl
same_kind_is _ _ e = absurd (differ (sym e))

abbrev kinds : List Kind
kinds = kind.Word ∷ kind.Id ∷ kind.Number ∷ kind.Str ∷ kind.Sign ∷ []

-- no token of this kind is in the set
abbrev silent : Set → Kind → Bool
silent set kd = not (set (other kd)) && list_all (λ (x : Entry). not (set x.class)) (entries kd)

-- no token of another kind is in the set
abbrev pub alone : Set → Kind → Bool
alone set kd = list_all (λ other. same_kind other kd || silent set other) kinds

each_kind : (f : Kind → Bool) → list_all f kinds ≡ true → (kd : Kind) → f kd ≡ true
each_kind f h kind.Word = left_true (f kind.Word) _ h
each_kind f h kind.Id = left_true (f kind.Id) _ (right_true (f kind.Word) _ h)
each_kind f h kind.Number = left_true (f kind.Number) _ (right_true (f kind.Id) _ (right_true (f kind.Word) _ h))
each_kind f h kind.Str = left_true (f kind.Str) _ (right_true (f kind.Number) _ (right_true (f kind.Id) _ (right_true (f kind.Word) _ h)))
each_kind f h kind.Sign = left_true (f kind.Sign) _ (right_true (f kind.Str) _ (right_true (f kind.Number) _ (right_true (f kind.Id) _ (right_true (f kind.Word) _ h))))

either_false : (set : Set) (b : Bool) (c d : Class) → set c ≡ false → set d ≡ false → set (cond b c d) ≡ false
either_false set true c d e h = e
either_false set false c d e h = h

silent_in : (set : Set) (es : List Entry) (o : Class) (text : List ℕ) → set o ≡ false → list_all (λ (x : Entry). not (set x.class)) es ≡ true → set (class_in es o text) ≡ false
silent_in set [] o text ho h = ho
silent_in set (x ∷ es) o text ho h =
    either_false set (bytes_eq text x.text) x.class (class_in es o text) (not_true (set x.class) (left_true (not (set x.class)) _ h))
    (silent_in set es o text ho (right_true (not (set x.class)) _ h))

pub kind_in : (set : Set) (kd : Kind) → alone set kd ≡ true → (t : Token) → set (class_of t) ≡ true → t.kind ≡ kd
kind_in set kd h t e =
    let c : set (table_class t.kind t.text) ≡ true = ap set (sym (class_is t)) ∙ e in
    elim (or_case (same_kind t.kind kd) (silent set t.kind) (each_kind (λ other. same_kind other kd || silent set other) h t.kind)) as (λ _. t.kind ≡ kd) [
      | inl x ↦ same_kind_is t.kind kd x
      | inr x ↦ absurd (differ (sym c ∙ silent_in set (entries t.kind) (other t.kind) t.text (not_true (set (other t.kind)) (left_true (not (set (other t.kind))) _ x)) (right_true (not (set (other t.kind))) _ x)))
    ]

-- ---- the text

abbrev entry_tells : Set → (Class → List ℕ) → Entry → Bool
entry_tells set f x = not (set x.class) || bytes_eq x.text (f x.class)

-- the class tells the text
abbrev pub tells : Set → (Class → List ℕ) → Kind → Bool
tells set f kd = not (set (other kd)) && list_all (entry_tells set f) (entries kd)

at_entry : (set : Set) (f : Class → List ℕ) (x : Entry) (text : List ℕ) (rest : Class) (b : Bool) → bytes_eq text x.text ≡ b → entry_tells set f x ≡ true
    → (set rest ≡ true → text ≡ f rest) → set (cond b x.class rest) ≡ true → text ≡ f (cond b x.class rest)
at_entry set f x text rest true hb h go e = (bytes_eq-Decides text x.text).0 hb ∙ (bytes_eq-Decides x.text (f x.class)).0 (then_true (set x.class) _ h e)
at_entry set f x text rest false hb h go e = go e

text_by : (set : Set) (f : Class → List ℕ) (es : List Entry) (o : Class) (text : List ℕ) → set o ≡ false → list_all (entry_tells set f) es ≡ true
    → set (class_in es o text) ≡ true → text ≡ f (class_in es o text)
text_by set f [] o text ho h e = absurd (differ (sym e ∙ ho))
text_by set f (x ∷ es) o text ho h e =
    at_entry set f x text (class_in es o text) (bytes_eq text x.text) refl (left_true (entry_tells set f x) _ h)
    (text_by set f es o text ho (right_true (entry_tells set f x) _ h)) e

pub text_in : (set : Set) (f : Class → List ℕ) (kd : Kind) → tells set f kd ≡ true → (t : Token) → t.kind ≡ kd → set (class_of t) ≡ true → t.text ≡ f (class_of t)
text_in set f kd h t ek e =
    let c : class_of t ≡ table_class kd t.text = class_at t kd t.text ek refl in
    text_by set f (entries kd) (other kd) t.text (not_true (set (other kd)) (left_true (not (set (other kd))) _ h)) (right_true (not (set (other kd))) _ h) (ap set (sym c) ∙ e) ∙ ap f (sym c)

-- ---- sets of one text

pub record Fits (set : Set) (kd : Kind) (text : List ℕ) : Type 0 where
  pub to_kind : (t : Token) → set (class_of t) ≡ true → t.kind ≡ kd
  pub to_text : (t : Token) → set (class_of t) ≡ true → t.text ≡ text
  pub from : (t : Token) → t.kind ≡ kd → t.text ≡ text → set (class_of t) ≡ true

pub fits : {set : Set} {kd : Kind} {text : List ℕ} → alone set kd ≡ true → tells set (λ _. text) kd ≡ true → set (table_class kd text) ≡ true → Fits set kd text
fits {set = set} {kd = kd} {text = text} a b c = record {
  to_kind = kind_in set kd a;
  to_text = λ t e. text_in set (λ _. text) kd b t (kind_in set kd a t e) e;
  from = λ t ek et. ap set (class_at t kd text ek et) ∙ c;
}

pub open_brace : Fits is.open_brace kind.Sign (codes "{")
open_brace = fits refl refl refl

pub close_brace : Fits is.close_brace kind.Sign (codes "}")
close_brace = fits refl refl refl

pub open_paren : Fits is.open_paren kind.Sign (codes "(")
open_paren = fits refl refl refl

pub close_paren : Fits is.close_paren kind.Sign (codes ")")
close_paren = fits refl refl refl

pub open_bracket : Fits is.open_bracket kind.Sign (codes "[")
open_bracket = fits refl refl refl

pub close_bracket : Fits is.close_bracket kind.Sign (codes "]")
close_bracket = fits refl refl refl

pub semicolon : Fits is.semicolon kind.Sign (codes ";")
semicolon = fits refl refl refl

pub comma : Fits is.comma kind.Sign (codes ",")
comma = fits refl refl refl

pub dot : Fits is.dot kind.Sign (codes ".")
dot = fits refl refl refl

pub assign : Fits is.assign kind.Sign (codes "=")
assign = fits refl refl refl

pub then_sign : Fits is.then_sign kind.Sign (codes "@")
then_sign = fits refl refl refl

pub colon : Fits is.colon kind.Sign (codes ":")
colon = fits refl refl refl

pub arrow : Fits is.arrow kind.Sign (codes "<-")
arrow = fits refl refl refl

pub getter : Fits is.getter kind.Id (codes "getReferenceByName")
getter = fits refl refl refl

pub at : Fits is.at kind.Id (codes "at")
at = fits refl refl refl

pub delay : Fits is.delay kind.Id (codes "delay")
delay = fits refl refl refl

pub wait_for : Fits is.wait_for kind.Id (codes "waitfor")
wait_for = fits refl refl refl

pub length : Fits is.length kind.Id (codes "length")
length = fits refl refl refl

pub behavior : Fits is.behavior kind.Word (codes "behavior")
behavior = fits refl refl refl

pub new : Fits is.new kind.Word (codes "new")
new = fits refl refl refl

pub void : Fits is.void kind.Word (codes "void")
void = fits refl refl refl

pub token : Fits is.token kind.Word (codes "token")
token = fits refl refl refl

pub join : Fits is.join kind.Word (codes "join")
join = fits refl refl refl

pub if_word : Fits is.if_word kind.Word (codes "if")
if_word = fits refl refl refl

pub else_word : Fits is.else_word kind.Word (codes "else")
else_word = fits refl refl refl

pub while_word : Fits is.while_word kind.Word (codes "while")
while_word = fits refl refl refl

pub for_word : Fits is.for_word kind.Word (codes "for")
for_word = fits refl refl refl

pub return_word : Fits is.return_word kind.Word (codes "return")
return_word = fits refl refl refl

pub true_word : Fits is.true_word kind.Word (codes "true")
true_word = fits refl refl refl

pub false_word : Fits is.false_word kind.Word (codes "false")
false_word = fits refl refl refl

pub null : Fits is.null kind.Word (codes "null")
null = fits refl refl refl

pub me : Fits is.me kind.Word (codes "self")
me = fits refl refl refl

pub this : Fits is.this kind.Word (codes "this")
this = fits refl refl refl

pub current : Fits is.current kind.Word (codes "currentContinuation")
current = fits refl refl refl

pub output : Fits is.output kind.Word (codes "standardOutput")
output = fits refl refl refl

-- ---- identifiers

pub name_kind : (t : Token) → is.id (class_of t) ≡ true → t.kind ≡ kind.Id
name_kind = kind_in is.id kind.Id refl

either_true : (set : Set) (b : Bool) (c d : Class) → set c ≡ true → set d ≡ true → set (cond b c d) ≡ true
either_true set true c d e h = e
either_true set false c d e h = h

all_in : (set : Set) (es : List Entry) (o : Class) (text : List ℕ) → set o ≡ true → list_all (λ (x : Entry). set x.class) es ≡ true → set (class_in es o text) ≡ true
all_in set [] o text ho h = ho
all_in set (x ∷ es) o text ho h =
    either_true set (bytes_eq text x.text) x.class (class_in es o text) (left_true (set x.class) _ h) (all_in set es o text ho (right_true (set x.class) _ h))

pub name_class : (t : Token) → t.kind ≡ kind.Id → is.id (class_of t) ≡ true
name_class t e = ap is.id (class_at t kind.Id t.text e refl) ∙ all_in is.id identifiers k.Id t.text refl refl
