-- Lists in brackets: their words and their spellings.
use Rattle.std.proofs.Common.{◌≡◌, ℕ, zero, suc, Bool, true, false, List, [], ◌∷◌, ◌++◌, length, map, Option, Some, None, refl, sym, ap, ◌∙◌, subst, append_assoc, append-nil}
use Rattle.sal_ast.specs.declared.lexeme.Kind.{Kind}
use Rattle.sal_ast.specs.declared.lexeme.Kind.TheVariants as kind
use Rattle.sal_ast.specs.Regular.{has_any}
use Rattle.sal_ast.specs.Spell.{TreeToken, TreeTokens, concat_tokens, each_after_sign, separated_tokens, sign, brackets}
use Rattle.sal_grammar.specs.Tokens.{Token, Set, Lexemes, class_of}
use Rattle.sal_grammar.specs.Sets as is
use Rattle.sal_grammar.proofs.Languages.{Seq, One, Just, Either, Star}
use Rattle.sal_grammar.proofs.ExpressionWords.{CommaItemWord, ItemsUntilWord, ListUntilWord, PairWord, PairsWord}
use Rattle.sal_grammar.proofs.TreesTokens.{Fits}
use Rattle.sal_grammar.proofs.TreesTokens as the
use Rattle.sal_grammar.proofs.TreesSteps.{Gives, Into, Takes, Each, gives_by, into_seq, into_just, into_end, into_either, into_at, into_gives, gives_more, token, star_gives, take_seq, take_just, take_end, take_as, take_left, take_right, take_token, star_takes}

-- the words are the spellings of the values of which a fact holds
pub record Link {A : Type 0} (W : A → List Token → Type 0) (F : A → Type 0) (P : A → TreeTokens) : Type 0 where
  pub gives : Gives W F P
  pub takes : (a : A) → F a → Takes W a (P a)

-- ---- items with commas between them

all_led : {A : Type 0} (P : A → TreeTokens) (xs : List A) → concat_tokens (map (λ x. sign "," ++ P x) xs) ≡ each_after_sign "," (map P xs)
all_led P [] = refl
all_led P (x ∷ xs) = ap (λ z. sign "," ++ (P x ++ z)) (all_led P xs)

comma_link : {A : Type 0} {W : A → List Token → Type 0} {F : A → Type 0} {P : A → TreeTokens} → Link W F P → Link (CommaItemWord W) F (λ x. sign "," ++ P x)
comma_link l = record {
  gives = gives_by (into_seq (token the.comma) (λ t h. into_gives l.gives (λ a x. x) (λ a. refl)));
  takes = λ a x. take_token the.comma (λ t. l.takes a x);
}

pub items_gives : {A : Type 0} {W : A → List Token → Type 0} {F : A → Type 0} {P : A → TreeTokens} {set : Set} {kd : Kind} {text : List ℕ} → Fits set kd text → Link W F P
    → Gives (ItemsUntilWord set W) (λ xs. Each F xs × (has_any xs ≡ true)) (λ xs. separated_tokens "," (map P xs) ++ (record { kind = kd; text = text; at = None } ∷ []))
items_gives {P = P} {kd = kd} {text = text} f l =
    gives_by (into_seq l.gives (λ x fx. into_seq (star_gives (comma_link l).gives) (λ others fo. into_seq (token f) (λ t h. into_just (x ∷ others) ((fx, fo), refl)
    (ap (λ z. P x ++ (z ++ (record { kind = kd; text = text; at = None } ∷ []))) (all_led P others) ∙ sym (append_assoc (P x) (each_after_sign "," (map P others)) (record { kind = kd; text = text; at = None } ∷ [])))))))

pub items_takes : {A : Type 0} {W : A → List Token → Type 0} {F : A → Type 0} {P : A → TreeTokens} {set : Set} {kd : Kind} {text : List ℕ} → Fits set kd text → Link W F P
    → (x : A) (others : List A) → F x → Each F others → Takes (ItemsUntilWord set W) (x ∷ others) (separated_tokens "," (map P (x ∷ others)) ++ (record { kind = kd; text = text; at = None } ∷ []))
items_takes {P = P} {kd = kd} {text = text} f l x others fx fo =
    take_as (append_assoc (P x) (each_after_sign "," (map P others)) (record { kind = kd; text = text; at = None } ∷ []) ∙ ap (λ z. P x ++ (z ++ (record { kind = kd; text = text; at = None } ∷ []))) (sym (all_led P others)))
    (take_seq x (l.takes x fx) (take_seq others (star_takes (comma_link l).takes others fo) (take_token f (λ t. take_just (x ∷ others) refl))))

list_takes : {A : Type 0} {W : A → List Token → Type 0} {F : A → Type 0} {P : A → TreeTokens} {set : Set} {kd : Kind} {text : List ℕ} → Fits set kd text → Link W F P
    → (xs : List A) → Each F xs → Takes (ListUntilWord set W) xs (separated_tokens "," (map P xs) ++ (record { kind = kd; text = text; at = None } ∷ []))
list_takes f l [] h = take_left (take_token f (λ t. take_just [] refl))
list_takes f l (x ∷ others) h = take_right (items_takes f l x others h.0 h.1)

pub list_link : {A : Type 0} {W : A → List Token → Type 0} {F : A → Type 0} {P : A → TreeTokens} {set : Set} {kd : Kind} {text : List ℕ} → Fits set kd text → Link W F P
    → Link (ListUntilWord set W) (Each F) (λ xs. separated_tokens "," (map P xs) ++ (record { kind = kd; text = text; at = None } ∷ []))
list_link f l = record {
  gives = gives_by (into_either (into_seq (token f) (λ t h. into_just [] tt refl)) (into_gives (items_gives f l) (λ xs h. h.0) (λ xs. refl)));
  takes = list_takes f l;
}

-- ---- pairs of brackets

pair_link : Link PairWord (λ _. Unit {0}) (λ _. sign "[" ++ sign "]")
pair_link = record {
  gives = gives_by (into_seq (token the.open_bracket) (λ t h. into_seq (token the.close_bracket) (λ t' h'. into_just tt tt refl)));
  takes = λ a x. take_token the.open_bracket (λ t. take_token the.close_bracket (λ t'. take_just tt refl));
}

all_brackets : (xs : List (Unit {0})) → concat_tokens (map (λ _. sign "[" ++ sign "]") xs) ≡ brackets (length xs)
unfolding brackets
all_brackets [] = refl
all_brackets (x ∷ xs) = ap (λ z. sign "[" ++ (sign "]" ++ z)) (all_brackets xs)

abbrev units : ℕ → List (Unit {0})
units zero = []
units (suc n) = tt ∷ units n

units_length : (n : ℕ) → length (units n) ≡ n
units_length zero = refl
units_length (suc n) = ap suc (units_length n)

units_each : (n : ℕ) → Each (λ _. Unit {0}) (units n)
units_each zero = tt
units_each (suc n) = (tt, units_each n)

pub pairs_link : Link PairsWord (λ _. Unit {0}) brackets
pairs_link = record {
  gives = gives_by (into_end length (star_gives pair_link.gives) (λ xs h. tt) (λ xs. all_brackets xs));
  takes = λ n h. take_as (ap brackets (sym (units_length n)) ∙ sym (all_brackets (units n))) (take_end length (units n) (star_takes pair_link.takes (units n) (units_each n)) (units_length n));
}

pub brackets_next : (n : ℕ) → brackets (suc n) ≡ sign "[" ++ (sign "]" ++ brackets n)
unfolding brackets
brackets_next n = refl
