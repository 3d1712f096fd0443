-- The calls for an actor, where some actors left.
use Rattle.std.proofs.Common.{◌≡◌, Bool, true, false, cond, ◌||◌, List, [], ◌∷◌, filter, refl, sym, ap, ◌∙◌, true≢false}
use Rattle.std.specs.Prelude.{not}
use Rattle.std.specs.Str.{bytes_eq}
use Rattle.std.proofs.lemmas.Slice.Eq.{bytes_eq-Decides}
use Rattle.sal_value.specs.declared.name.Name.{Name}
use Rattle.sal_value.specs.Table.{key_eq}
use Rattle.sal_value.proofs.Tables.{same_words, words_refl}
use Rattle.sal_mail.specs.declared.message.Target.{Target}
use Rattle.sal_mail.specs.declared.message.Target.TheVariants.{Actor, Output}
use Rattle.sal_mail.specs.declared.message.Message.{Message}
use Rattle.sal_mail.specs.Message.{targets, is_for, is_not_for}
use Rattle.sal_source.specs.Keys.{name_key}
use Rattle.sal_desk.specs.code.Drafts.{without_calls, is_among}

-- ---- names that are the same, and others

same_calls : (m n : Name) → name_key m ≡ name_key n → (t : Target) → targets m t ≡ targets n t
same_calls m n same (Actor a) = ap (λ k. bytes_eq (name_key a) k) same
same_calls m n same Output = refl

other_calls : (m n : Name) → key_eq (name_key m) (name_key n) ≡ false → (t : Target) → targets m t ≡ true → targets n t ≡ false
other_calls m n other Output h = absurd (true≢false (sym h))
other_calls m n other (Actor a) h = at (bytes_eq (name_key a) (name_key n)) refl
  where
    at : (b : Bool) → bytes_eq (name_key a) (name_key n) ≡ b → b ≡ false
    at false e = refl
    at true e =
        let here : name_key a ≡ name_key m = (bytes_eq-Decides (name_key a) (name_key m)).0 h in
        let there : name_key a ≡ name_key n = (bytes_eq-Decides (name_key a) (name_key n)).0 e in
        absurd (true≢false (sym (words_refl (name_key m)) ∙ ap (key_eq (name_key m)) (sym here ∙ there) ∙ other))

-- ---- one actor left

-- none of its calls is there
gone : (m n : Name) → key_eq (name_key m) (name_key n) ≡ true → (ms : List Message) → filter (is_for n) (filter (is_not_for m) ms) ≡ []
gone m n same [] = refl
gone m n same (x ∷ xs) = at (is_for m x) (sym (same_calls m n (same_words (name_key m) (name_key n) same) x.target)) (gone m n same xs)
  where
    at : (b : Bool) → is_for n x ≡ b → filter (is_for n) (filter (is_not_for m) xs) ≡ [] → filter (is_for n) (cond (not b) (x ∷ filter (is_not_for m) xs) (filter (is_not_for m) xs)) ≡ []
    at true e rest = rest
    at false e rest = ap (λ b. cond b (x ∷ filter (is_for n) (filter (is_not_for m) xs)) (filter (is_for n) (filter (is_not_for m) xs))) e ∙ rest

-- those of others are
still : (m n : Name) → key_eq (name_key m) (name_key n) ≡ false → (ms : List Message) → filter (is_for n) (filter (is_not_for m) ms) ≡ filter (is_for n) ms
still m n other [] = refl
still m n other (x ∷ xs) = at (is_for m x) refl (still m n other xs)
  where
    at : (b : Bool) → is_for m x ≡ b → filter (is_for n) (filter (is_not_for m) xs) ≡ filter (is_for n) xs →
        filter (is_for n) (cond (not b) (x ∷ filter (is_not_for m) xs) (filter (is_not_for m) xs)) ≡ cond (is_for n x) (x ∷ filter (is_for n) xs) (filter (is_for n) xs)
    at true e rest = rest ∙ ap (λ b. cond b (x ∷ filter (is_for n) xs) (filter (is_for n) xs)) (sym (other_calls m n other x.target e))
    at false e rest = ap (λ ys. cond (is_for n x) (x ∷ ys) ys) rest

-- ---- several left

stays_none : (names : List Name) (n : Name) (ms : List Message) → filter (is_for n) ms ≡ [] → filter (is_for n) (without_calls names ms) ≡ []
unfolding without_calls
stays_none [] n ms none = none
stays_none (m ∷ names) n ms none = stays_none names n (filter (is_not_for m) ms) (at (key_eq (name_key m) (name_key n)) refl)
  where
    at : (b : Bool) → key_eq (name_key m) (name_key n) ≡ b → filter (is_for n) (filter (is_not_for m) ms) ≡ []
    at true is = gone m n is ms
    at false is = still m n is ms ∙ none

-- the actor is one of them
pub none_left : (names : List Name) (n : Name) (ms : List Message) → is_among n names ≡ true → filter (is_for n) (without_calls names ms) ≡ []
unfolding without_calls
none_left [] n ms h = absurd (true≢false (sym h))
none_left (m ∷ names) n ms h = at (key_eq (name_key m) (name_key n)) refl h (none_left names n (filter (is_not_for m) ms))
  where
    at : (b : Bool) → key_eq (name_key m) (name_key n) ≡ b → (b || is_among n names) ≡ true → (is_among n names ≡ true → filter (is_for n) (without_calls names (filter (is_not_for m) ms)) ≡ []) → filter (is_for n) (without_calls names (filter (is_not_for m) ms)) ≡ []
    at true is g rest = stays_none names n (filter (is_not_for m) ms) (gone m n is ms)
    at false is g rest = rest g

-- it isn't
pub all_left : (names : List Name) (n : Name) (ms : List Message) → is_among n names ≡ false → filter (is_for n) (without_calls names ms) ≡ filter (is_for n) ms
unfolding without_calls
all_left [] n ms h = refl
all_left (m ∷ names) n ms h = at (key_eq (name_key m) (name_key n)) refl h (all_left names n (filter (is_not_for m) ms))
  where
    at : (b : Bool) → key_eq (name_key m) (name_key n) ≡ b → (b || is_among n names) ≡ false → (is_among n names ≡ false → filter (is_for n) (without_calls names (filter (is_not_for m) ms)) ≡ filter (is_for n) (filter (is_not_for m) ms)) → filter (is_for n) (without_calls names (filter (is_not_for m) ms)) ≡ filter (is_for n) ms
    at true is g rest = absurd (true≢false g)
    at false is g rest = rest g ∙ still m n is ms
