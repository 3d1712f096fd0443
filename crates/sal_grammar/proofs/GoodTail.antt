-- The end of a chain is read exactly: further stages, and then `;` or `@ currentContinuation ;`.
use Rattle.std.proofs.Common.{◌≡◌, inl, inr, ℕ, zero, suc, ◌≤◌, ◌<◌, Bool, true, false, List, [], ◌∷◌, ◌++◌, length, refl, sym, ◌∙◌, ap, subst, append_assoc, append-nil, length-append, arith, Option, Some, None}
use Rattle.sal_ast.specs.declared.statement.Stage.{Stage}
use Rattle.sal_grammar.specs.declared.class.Class.TheVariants as k
use Rattle.sal_grammar.specs.Tokens.{Token, Set, next, class_of, none, both}
use Rattle.sal_grammar.specs.Sets as is
use Rattle.sal_grammar.specs.Parsers.{Parser, ◌>>=◌, pure, token_at, where_sees}
use Rattle.sal_grammar.specs.Statements.{Tail, tail_from, tail}
use Rattle.sal_grammar.proofs.Languages.{Seq, One, Just, Either}
use Rattle.sal_grammar.proofs.Exactness.{Apart, Within, differ, Begun, Starts, Judged, Same, Clear, Good, Follows, seq_judged}
use Rattle.sal_grammar.proofs.Classes.{dis, sample}
use Rattle.sal_grammar.proofs.Choices.{nothing, token_good, lang_judged, where_judged, where_good, leads_in, leads_out}
use Rattle.sal_grammar.proofs.Steps.{self, both_apart, least, done, then_good}
use Rattle.sal_grammar.proofs.StatementWords.{StopWord, StagesWord, TailWord}

-- ---- the same words, by the first token

abbrev last : Option ℕ → Tail
last passed = record { stages = []; passed = passed }

abbrev with_first : Stage → Tail → Tail
with_first first others = record { stages = first ∷ others.stages; passed = others.passed }

abbrev Passed : Tail → List Token → Type 0
Passed = Seq (One is.current) (λ t. Seq (One is.semicolon) (λ _. Just (last (Some t.at))))

abbrev Further : (Stage → List Token → Type 0) → Tail → List Token → Type 0
Further W = Seq W (λ first. Seq (TailWord W) (λ others. Just (with_first first others)))

abbrev Goes : (Stage → List Token → Type 0) → Tail → List Token → Type 0
Goes W = Seq (One is.then_sign) (λ _. Either Passed (Further W))

abbrev Ended : Tail → List Token → Type 0
Ended = Seq (One is.semicolon) (λ _. Just (last None))

abbrev Whole : (Stage → List Token → Type 0) → Tail → List Token → Type 0
Whole W = Either (Goes W) Ended

from_stages : (W : Stage → List Token → Type 0) (passed : Option ℕ) (stages : List Stage) (u : List Token) → StagesWord W passed stages u
    → Whole W (record { stages = stages; passed = passed }) u
from_stages W passed [] u (inl x) =
    let y = x.second in
    let z = y.second in
    inl (record {
      item = x.item;
      left = x.left;
      right = x.right;
      first = x.first;
      joined = x.joined;
      second = inl (record {
        item = y.item;
        left = y.left;
        right = y.right;
        first = y.first;
        joined = y.joined;
        second = record {
          item = z.item;
          left = z.left;
          right = z.right;
          first = z.first;
          joined = z.joined;
          second = record { same = ap last z.second.same; empty = z.second.empty };
        };
      });
    })
from_stages W passed [] u (inr x) =
    inr (record { item = x.item; left = x.left; right = x.right; first = x.first; joined = x.joined; second = record { same = ap last x.second.same; empty = x.second.empty } })
from_stages W passed (a ∷ others) u x =
    let y = x.first in
    inl (record {
      item = y.item;
      left = y.left;
      right = y.right ++ x.right;
      first = y.first;
      joined = sym (append_assoc y.left y.right x.right) ∙ (ap (λ z. z ++ x.right) y.joined ∙ x.joined);
      second = inr (record {
        item = a;
        left = y.right;
        right = x.right;
        first = y.second;
        joined = refl;
        second = record {
          item = record { stages = others; passed = passed };
          left = x.right;
          right = [];
          first = x.second;
          joined = append-nil x.right;
          second = record { same = refl; empty = refl };
        };
      });
    })

from_tail : (W : Stage → List Token → Type 0) (t : Tail) (u : List Token) → TailWord W t u → Whole W t u
from_tail W t u x = from_stages W t.passed t.stages u x

to_further : (W : Stage → List Token → Type 0) (t : Tail) (a : Token) (v w u : List Token) → One is.then_sign a v → Further W t w → v ++ w ≡ u → TailWord W t u
to_further W t a v w u o x e =
    let y = x.second in
    let e1 : y.left ≡ x.right = sym (append-nil y.left) ∙ (ap (λ z. y.left ++ z) y.second.empty ∙ y.joined) in
    subst (λ z. TailWord W z u) y.second.same
    (record {
      left = v ++ x.left;
      right = x.right;
      first = record { item = a; left = v; right = x.left; first = o; second = x.first; joined = refl };
      second = subst (λ z. StagesWord W y.item.passed y.item.stages z) e1 y.first;
      joined = append_assoc v x.left x.right ∙ (ap (λ z. v ++ z) x.joined ∙ e);
    })

to_tail : (W : Stage → List Token → Type 0) (t : Tail) (u : List Token) → Whole W t u → TailWord W t u
to_tail W t u (inr x) = subst (λ z. TailWord W z u) x.second.same
    (inr (record { item = x.item; left = x.left; right = x.right; first = x.first; joined = x.joined; second = record { same = refl; empty = x.second.empty } }))
to_tail W t u (inl x) = elim (x.second) [
  | inl y ↦
      let z = y.second in
      subst (λ z. TailWord W z u) z.second.same
      (inl (record {
        item = x.item;
        left = x.left;
        right = x.right;
        first = x.first;
        joined = x.joined;
        second = record {
          item = y.item;
          left = y.left;
          right = y.right;
          first = y.first;
          joined = y.joined;
          second = record { item = z.item; left = z.left; right = z.right; first = z.first; joined = z.joined; second = record { same = refl; empty = z.second.empty } };
        };
      }))
  | inr y ↦ to_further W t x.item x.left x.right u x.first y x.joined
]

-- ---- told apart

stop_good : Good none (both is.then_sign is.semicolon) false StopWord nothing
    (where_sees is.then_sign
    (token_at is.then_sign >>= (λ _. token_at is.current >>= (λ t. token_at is.semicolon >>= (λ _. pure (Some t.at)))))
    (token_at is.semicolon >>= (λ _. pure None)))
stop_good =
    where_good {pre' = none} (then_good k.Then refl refl (λ _. then_good k.Current refl refl (λ t. then_good k.Semicolon refl refl (λ _. done (Some t.at)))))
    (then_good k.Semicolon refl refl (λ _. done None)) self (dis refl) least tt

-- what is asked of the stages
record Stages (first m : Set) (W : Stage → List Token → Type 0) (stage : Parser Stage) : Type 0 where
  pub good : Good none first false W (λ _. m) stage
  pub then_apart : Apart is.then_sign m
  pub end_apart : Apart is.semicolon m
  pub current_apart : Apart first is.current

head_good : {first m : Set} {W : Stage → List Token → Type 0} {stage : Parser Stage} → Stages first m W stage
    → Good none is.then_sign false (Seq (One is.then_sign) (λ _. W)) (λ _. m) (token_at is.then_sign >>= (λ _. stage))
head_good h = then_good k.Then refl refl (λ _. h.good)

starts_with : (f : Set) (u v : List Token) → Starts f false u → Starts f false (u ++ v)
starts_with f [] v h = absurd (differ (sym h))
starts_with f (t ∷ u) v h = h

or_one : (a b : Bool) → a ≡ true → both (λ _. a) (λ _. b) k.End ≡ true
or_one true b e = refl
or_one false b e = absurd (differ (sym e))

or_true : (f g : Set) (u : List Token) → Starts f false u → Starts (both f g) false u
or_true f g [] h = h
or_true f g (t ∷ u) h = or_one (f (class_of t)) (g (class_of t)) h

stages_starts : {first m : Set} {W : Stage → List Token → Type 0} {stage : Parser Stage} → Stages first m W stage → (passed : Option ℕ) (stages : List Stage) (u : List Token)
    → StagesWord W passed stages u → Starts (both is.then_sign is.semicolon) false u
stages_starts h passed [] u x = stop_good.starts passed u x
stages_starts h passed (a ∷ others) u x =
    subst (λ z. Starts (both is.then_sign is.semicolon) false z) x.joined
    (starts_with (both is.then_sign is.semicolon) x.left x.right (or_true is.then_sign is.semicolon x.left ((head_good h).starts a x.left x.first)))

goes_in : (f g : Set) (u r : List Token) → Starts f false u → Within f g → g (next (u ++ r)) ≡ true
goes_in f g [] r h w = absurd (differ (sym h))
goes_in f g (t ∷ u) r h w = w.at (class_of t) h

goes_out : (f g : Set) (u r : List Token) → Starts f false u → Apart f g → g (next (u ++ r)) ≡ false
goes_out f g [] r h w = absurd (differ (sym h))
goes_out f g (t ∷ u) r h w = w.at (class_of t) h

-- one chain's end with its values
record SameEnd (p q : Option ℕ) (xs ys : List Stage) (u v r s : List Token) : Type 0 where
  pub passed : p ≡ q
  pub stages : xs ≡ ys
  pub word : u ≡ v
  pub rest : r ≡ s

-- a stage after `@` is no `currentContinuation`, and `@` is no `;`
not_stop : {first m : Set} {W : Stage → List Token → Type 0} {stage : Parser Stage} → Stages first m W stage → (p : Option ℕ) (b : Stage) (u v r s : List Token)
    → StopWord p u → Seq (One is.then_sign) (λ _. W) b v → u ++ r ≡ v ++ s → ⊥
not_stop h p b u v r s (inr x) y e =
    let f : is.then_sign (next (v ++ s)) ≡ true = goes_in is.then_sign is.then_sign v s ((head_good h).starts b v y) self in
    let g : is.then_sign (next (u ++ r)) ≡ false =
    goes_out is.semicolon is.then_sign u r (subst (λ z. Starts is.semicolon false z) x.joined (starts_with is.semicolon x.left x.right (subst (λ z. Starts is.semicolon false z) x.first.alone x.first.fits))) (dis refl) in
    differ (sym f ∙ (ap (λ z. is.then_sign (next z)) (sym e) ∙ g))
not_stop {first = first} h p b u v r s (inl x) y e =
    let e1 : x.left ++ (x.right ++ r) ≡ y.left ++ (y.right ++ s) =
    sym (append_assoc x.left x.right r) ∙ (ap (λ z. z ++ r) x.joined ∙ (e ∙ (ap (λ z. z ++ s) (sym y.joined) ∙ append_assoc y.left y.right s))) in
    let c : Same x.item y.item x.left y.left (x.right ++ r) (y.right ++ s) =
    (token_good {pre = none} {is = is.then_sign} k.Then refl refl).clear x.item y.item x.left y.left (x.right ++ r) (y.right ++ s) x.first y.first refl refl e1 in
    let z = x.second in
    let f : is.current (next (x.right ++ r)) ≡ true =
    goes_in is.current is.current x.right r (subst (λ z. Starts is.current false z) z.joined (starts_with is.current z.left z.right (subst (λ z. Starts is.current false z) z.first.alone z.first.fits))) self in
    let g : is.current (next (y.right ++ s)) ≡ false = goes_out first is.current y.right s (h.good.starts b y.right y.second) h.current_apart in
    differ (sym f ∙ (ap (λ z. is.current (next z)) c.rest ∙ g))

stages_clear : {first m : Set} {W : Stage → List Token → Type 0} {stage : Parser Stage} → Stages first m W stage → (p q : Option ℕ) (xs ys : List Stage) (u v r s : List Token)
    → StagesWord W p xs u → StagesWord W q ys v → u ++ r ≡ v ++ s → SameEnd p q xs ys u v r s
stages_clear h p q [] [] u v r s x y e =
    let c = stop_good.clear p q u v r s x y refl refl e in
    record { passed = c.item; stages = refl; word = c.word; rest = c.rest }
stages_clear h p q [] (b ∷ ys) u v r s x y e =
    absurd (not_stop h p b u y.left r (y.right ++ s) x y.first (e ∙ (ap (λ z. z ++ s) (sym y.joined) ∙ append_assoc y.left y.right s)))
stages_clear h p q (a ∷ xs) [] u v r s x y e =
    absurd (not_stop h q a v x.left s (x.right ++ r) y x.first (sym e ∙ (ap (λ z. z ++ r) (sym x.joined) ∙ append_assoc x.left x.right r)))
stages_clear {m = m} h p q (a ∷ xs) (b ∷ ys) u v r s x y e =
    let e1 : x.left ++ (x.right ++ r) ≡ y.left ++ (y.right ++ s) =
    sym (append_assoc x.left x.right r) ∙ (ap (λ z. z ++ r) x.joined ∙ (e ∙ (ap (λ z. z ++ s) (sym y.joined) ∙ append_assoc y.left y.right s))) in
    let mx : m (next (x.right ++ r)) ≡ false = goes_out (both is.then_sign is.semicolon) m x.right r (stages_starts h p xs x.right x.second) (both_apart h.then_apart h.end_apart) in
    let my : m (next (y.right ++ s)) ≡ false = goes_out (both is.then_sign is.semicolon) m y.right s (stages_starts h q ys y.right y.second) (both_apart h.then_apart h.end_apart) in
    let c : Same a b x.left y.left (x.right ++ r) (y.right ++ s) =
    (head_good h).clear a b x.left y.left (x.right ++ r) (y.right ++ s) x.first y.first mx my e1 in
    let d = stages_clear h p q xs ys x.right y.right r s x.second y.second c.rest in
    record {
      passed = d.passed;
      stages = ap (λ z. z ∷ xs) c.item ∙ ap (λ z. b ∷ z) d.stages;
      word = sym x.joined ∙ (ap (λ z. z ++ x.right) c.word ∙ (ap (λ z. y.left ++ z) d.word ∙ y.joined));
      rest = d.rest;
    }

tail_same : (a b : Tail) → a.passed ≡ b.passed → a.stages ≡ b.stages → a ≡ b
tail_same a b e f = ap (λ z. record { stages = z; passed = a.passed }) f ∙ ap (λ z. record { stages = b.stages; passed = z }) e

tail_clear : {first m : Set} {W : Stage → List Token → Type 0} {stage : Parser Stage} → Stages first m W stage → Clear (TailWord W) nothing
tail_clear h a b u v r s x y hr hs e =
    let c = stages_clear h a.passed b.passed a.stages b.stages u v r s x y e in
    record { item = tail_same a b c.passed c.stages; word = c.word; rest = c.rest }

-- ---- judged

semicolon_token : Token
semicolon_token = sample k.Semicolon

tail_some : (W : Stage → List Token → Type 0) → Begun (TailWord W) []
tail_some W =
    let b = stop_good.some in
    record { item = last b.item; more = b.more; legal = b.legal; holds = b.holds }

longer : (u r i : List Token) (n : ℕ) (first : Set) → Starts first false u → u ++ r ≡ i → length i < suc n → length r < n
longer [] r i n first h e l = absurd (differ (sym h))
longer (t ∷ u) r i n first h e l = omega (arith, length-append u r, ap length e)

ended_good : {pre : Set} → Good pre is.semicolon false Ended nothing (token_at is.semicolon >>= (λ _. pure (last None)))
ended_good = then_good k.Semicolon refl refl (λ _. done (last None))

passed_good : {pre : Set} → Good pre is.current false Passed nothing (token_at is.current >>= (λ t. token_at is.semicolon >>= (λ _. pure (last (Some t.at)))))
passed_good = then_good k.Current refl refl (λ t. then_good k.Semicolon refl refl (λ _. done (last (Some t.at))))

seq_starts : {A C : Type 0} (W : A → List Token → Type 0) (V : A → C → List Token → Type 0) (f : Set) → ((a : A) (u : List Token) → W a u → Starts f false u)
    → (c : C) (u : List Token) → Seq W V c u → Starts f false u
seq_starts W V f st c u x = subst (λ z. Starts f false z) x.joined (starts_with f x.left x.right (st x.item x.left x.first))

follows_nothing : {A C : Type 0} (V : A → C → List Token → Type 0) (more : C → Set) → Follows (nothing {A = A}) V more
follows_nothing V more a c w r v e = refl

tail_follows : {first m : Set} {W : Stage → List Token → Type 0} {stage : Parser Stage} → Stages first m W stage
    → Follows {A = Stage} {C = Tail} (λ _. m) (λ a. Seq (TailWord W) (λ others. Just (with_first a others))) nothing
tail_follows {m = m} {W = W} h a c w r x e =
    goes_out (both is.then_sign is.semicolon) m w r
    (seq_starts (TailWord W) (λ others. Just (with_first a others)) (both is.then_sign is.semicolon) (λ t u y. stages_starts h t.passed t.stages u y) c w x)
    (both_apart h.then_apart h.end_apart)

further_judged : {first m : Set} {W : Stage → List Token → Type 0} {stage : Parser Stage} → Stages first m W stage → (rest : Parser Tail) (i : List Token)
    → ((r : List Token) → length r ≤ length i → Judged (TailWord W) nothing r (rest r))
    → Judged (Further W) nothing i ((stage >>= (λ a. rest >>= (λ others. pure (with_first a others)))) i)
further_judged {m = m} {W = W} {stage = stage} h rest i rec =
    seq_judged W (λ a. Seq (TailWord W) (λ others. Just (with_first a others))) (λ _. m) nothing (λ a. rest >>= (λ others. pure (with_first a others))) h.good.clear
    (λ a. let b = tail_some W in
    record {
      item = with_first a b.item;
      more = b.more;
      legal = b.legal;
      holds = record { item = b.item; left = b.more; right = []; first = b.holds; second = record { same = refl; empty = refl }; joined = append-nil b.more };
    })
    (tail_follows h) i (stage i) (h.good.judged i refl)
    (λ a r t. seq_judged (TailWord W) (λ others. Just (with_first a others)) nothing nothing (λ others. pure (with_first a others)) (tail_clear h)
    (λ others. record { item = with_first a others; more = []; legal = refl; holds = record { same = refl; empty = refl } })
    (follows_nothing (λ others. Just (with_first a others)) nothing) r (rest r) (rec r (omega (arith, length-append t.word r, ap length t.rest)))
    (λ others r' t'. record { word = []; holds = record { same = refl; empty = refl }; rest = refl; stops = refl }))

further_starts : {first m : Set} {W : Stage → List Token → Type 0} {stage : Parser Stage} → Stages first m W stage → (t : Tail) (u : List Token) → Further W t u → Starts first false u
further_starts {first = first} {W = W} h t u x = seq_starts W (λ a. Seq (TailWord W) (λ others. Just (with_first a others))) first h.good.starts t u x

goes_judged : {first m : Set} {W : Stage → List Token → Type 0} {stage : Parser Stage} → Stages first m W stage → (rest : Parser Tail) (i : List Token)
    → ((r : List Token) → length r < length i → Judged (TailWord W) nothing r (rest r))
    → Judged (Goes W) nothing i
    ((token_at is.then_sign >>= (λ _. where_sees is.current
    (token_at is.current >>= (λ t. token_at is.semicolon >>= (λ _. pure (last (Some t.at)))))
    (stage >>= (λ a. rest >>= (λ others. pure (with_first a others)))))) i)
goes_judged {first = first} {W = W} {stage = stage} h rest i rec =
    let one = token_good {pre = none} {is = is.then_sign} k.Then refl refl in
    let p = token_at is.current >>= (λ t. token_at is.semicolon >>= (λ _. pure (last (Some t.at)))) in
    let q = stage >>= (λ a. rest >>= (λ others. pure (with_first a others))) in
    let pg = passed_good {pre = none} in
    let pb = pg.some in
    seq_judged (One is.then_sign) (λ _. Either Passed (Further W)) nothing nothing (λ _. where_sees is.current p q) one.clear
    (λ t. record { item = pb.item; more = pb.more; legal = pb.legal; holds = inl pb.holds })
    (follows_nothing (λ _. Either Passed (Further W)) nothing) i (token_at is.then_sign i) (one.judged i refl)
    (λ t r took. where_judged Passed (Further W) is.current nothing p q r
    (leads_in Passed is.current is.current nothing self pg.starts)
    (leads_out (Further W) first is.current false nothing h.current_apart (further_starts h) tt)
    (is.current (next r)) refl (λ e. pg.judged r refl)
    (λ e. further_judged h rest r (λ r' l. rec r'
    (let f = longer took.word r i (length i) is.then_sign (one.starts t took.word took.holds) took.rest (omega arith) in omega (arith, f, l)))))

tail_judged : {first m : Set} {W : Stage → List Token → Type 0} {stage : Parser Stage} → Stages first m W stage → (n : ℕ) (i : List Token) → length i < n
    → Judged (TailWord W) nothing i (tail_from n stage i)
unfolding tail_from
tail_judged h zero i l = absurd (omega (arith, l))
tail_judged {W = W} {stage = stage} h (suc n) i l =
    let eg = ended_good {pre = none} in
    lang_judged (Whole W) (TailWord W) nothing (to_tail W) (from_tail W) i (tail_from (suc n) stage i)
    (where_judged (Goes W) Ended is.then_sign nothing
    (token_at is.then_sign >>= (λ _. where_sees is.current
    (token_at is.current >>= (λ t. token_at is.semicolon >>= (λ _. pure (last (Some t.at)))))
    (stage >>= (λ a. tail_from n stage >>= (λ others. pure (with_first a others))))))
    (token_at is.semicolon >>= (λ _. pure (last None))) i
    (leads_in (Goes W) is.then_sign is.then_sign nothing self
    (seq_starts (One is.then_sign) (λ _. Either Passed (Further W)) is.then_sign (token_good {pre = none} {is = is.then_sign} k.Then refl refl).starts))
    (leads_out Ended is.semicolon is.then_sign false nothing (dis refl) eg.starts tt)
    (is.then_sign (next i)) refl
    (λ e. goes_judged h (tail_from n stage) i (λ r l'. tail_judged h n r (omega (arith, l, l'))))
    (λ e. eg.judged i refl))

pub tail_good : {first m pre : Set} {W : Stage → List Token → Type 0} {stage : Parser Stage} → Good none first false W (λ _. m) stage
    → Apart is.then_sign m → Apart is.semicolon m → Apart first is.current → Good pre (both is.then_sign is.semicolon) false (TailWord W) nothing (tail stage)
tail_good {first = first} {m = m} {W = W} {stage = stage} g a b c =
    let h : Stages first m W stage = record { good = g; then_apart = a; end_apart = b; current_apart = c } in
    record {
      judged = λ i hp. tail_judged h (suc (length i)) i (omega arith);
      clear = tail_clear h;
      some = tail_some W;
      starts = λ t u x. stages_starts h t.passed t.stages u x;
    }
