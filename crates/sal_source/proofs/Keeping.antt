-- What each step of a run keeps: numbers that were taken are not taken again.
use Rattle.std.proofs.Common.{◌≡◌, inl, inr, ℕ, ◌+◌, ◌≤◌, ◌<◌, Bool, true, false, cond, ◌&&◌, not, if◌then◌else◌, List, [], ◌∷◌, ◌++◌, length, Option, Some, None, is_some, refl, sym, ap, subst, ◌∙◌, arith, append_assoc, length-append}
use Rattle.std.specs.Prelude.{nat_le, slice_get}
use Rattle.std.specs.List.{list_all}
use Rattle.std.proofs.lemmas.Bool.{leb-true, leb-false, eq-eqb}
use Rattle.std.specs.FinMap as fm
use Rattle.std.specs.FinSet as fs
use Rattle.sal_value.specs.declared.name.Name.{Name}
use Rattle.sal_value.specs.declared.name.Name.TheVariants as name
use Rattle.sal_value.proofs.Keys.{same_names}
use Rattle.sal_mail.specs.declared.message.Reply.{Reply}
use Rattle.sal_mail.specs.declared.message.Reply.TheVariants.{Nobody, Tok, Place, Outside}
use Rattle.sal_mail.specs.declared.effects.Actor.{Actor}
use Rattle.sal_mail.specs.declared.effects.Effects.{Effects}
use Rattle.sal_handler.specs.Scopes.{fresh_name, name_or}
use Rattle.sal_handler.specs.Calls.{Call}
use Rattle.sal_handler.specs.WellFormed.{EachOf, one_if_same, times_taken, IsWithin, IsNewReply, IsAllowedReply, IsGoodMessage, HaveFreshNames, IsOldReply, IsOrderly}
use Rattle.sal_handler.specs.WellFormed as f
use Rattle.sal_handler.proofs.Addresses.{total_append}
use Rattle.sal_source.specs.Table.{TableKey, key_cmp, key_eq, Table, write, keys_of}
use Rattle.sal_source.specs.Keys.{name_key, made_key}
use Rattle.sal_source.specs.Configuration.{Waiting, Configuration}
use Rattle.sal_source.specs.Give.{DueReply, settle_all}
use Rattle.sal_source.specs.Step.{put_actors, is_anonymous}
use Rattle.sal_source.specs.Once.{next_serial_of, next_serial}
use Rattle.sal_source.proofs.Tables.{words_tells, words_refl, get-write}
use Rattle.sal_source.proofs.Once.{Each, each_written, Waits, waits_settled, waits_dropped}

abbrev pub Actors : Type 0
Actors = Table (Actor × ℕ)

-- ---- numbers

-- names of actors, which aren't of the outside
abbrev pub IsActor : Name → Type 0
IsActor (name.Anon theatre n) = Unit {0}
IsActor (name.Uan u) = Unit {0}
IsActor (name.Outside n) = ⊥

pub next_actor : (actors : Actors) (posted : ℕ) (n : Name) → IsActor n → next_serial actors posted n ≡ next_serial_of (fm.get actors (name_key n))
next_actor actors posted (name.Anon theatre n) h = refl
next_actor actors posted (name.Uan u) h = refl
next_actor actors posted (name.Outside n) h = absurd h

pub same_made : (m n : Name) (s t : ℕ) → made_key m s ≡ made_key n t → (m ≡ n) × (s ≡ t)
same_made m n s t e = let names : name_key m ≡ name_key n = cc in let numbers : s ≡ t = cc in (same_names m n names, numbers)

-- the number that the address names is taken
abbrev pub IsOwedOld : Actors → ℕ → Reply → Type 0
IsOwedOld actors posted Nobody = Unit {0}
IsOwedOld actors posted (Tok maker n) = n < next_serial actors posted maker
IsOwedOld actors posted (Place maker join at) = join < next_serial actors posted maker
IsOwedOld actors posted (Outside n) = Unit {0}

-- what waits has a number that is taken, and owes its reply so
pub record Fits (actors : Actors) (posted : ℕ) (key : TableKey) (r : Reply) : Type 0 where
  pub owed : IsOwedOld actors posted r
  pub number : (m : Name) (s : ℕ) → key ≡ made_key m s → s < next_serial actors posted m

-- what waits under a number that was taken was there before
pub record WasThere (actors : Actors) (posted : ℕ) (before : TableKey → Bool) (key : TableKey) (r : Reply) : Type 0 where
  pub there : (m : Name) (s : ℕ) → key ≡ made_key m s → s < next_serial actors posted m → before key ≡ true

pub record IsKeyed (key : TableKey) (a : Actor × ℕ) : Type 0 where
  pub keyed : name_key a.0.name ≡ key
  pub actor : IsActor a.0.name

-- the names given are those of the actors, and what waits fits them
pub record Kept (actors : Actors) (given : fs.FinSet key_cmp) (posted : ℕ) (w : Waiting) : Type 0 where
  pub named : given ≡ keys_of actors
  pub keyed : Each IsKeyed actors
  pub waits : Waits (Fits actors posted) (Fits actors posted) w

abbrev pub KeptIn : Configuration → Type 0
KeptIn c = Kept c.actors c.given c.posted c.waiting

abbrev pub Grows : Actors → ℕ → Actors → ℕ → Type 0
Grows actors posted actors' posted' = (n : Name) → next_serial actors posted n ≤ next_serial actors' posted' n

-- numbers only grow, and what waits under taken ones was there
pub record Goes (actors : Actors) (posted : ℕ) (w : Waiting) (actors' : Actors) (posted' : ℕ) (w' : Waiting) : Type 0 where
  pub grows : Grows actors posted actors' posted'
  pub waits : Waits (WasThere actors posted (fm.contains_key w.messages)) (WasThere actors posted (fm.contains_key w.joins)) w'

abbrev pub GoesTo : Configuration → Configuration → Type 0
GoesTo c d = Goes c.actors c.posted c.waiting d.actors d.posted d.waiting

pub there_is : {X : Type 0} (t : Table X) (key : TableKey) → fm.contains_key t key ≡ true → (x : X) × (fm.get t key ≡ Some x)
there_is t key e = at (fm.get t key) refl e
  where
    at : (o : Option _) → fm.get t key ≡ o → is_some o ≡ true → (x : _) × (fm.get t key ≡ Some x)
    at None same e = absurd cc
    at (Some x) same e = (x, same)

pub is_there : {X : Type 0} (t : Table X) (key : TableKey) (x : X) → fm.get t key ≡ Some x → fm.contains_key t key ≡ true
is_there t key x e = ap is_some e

each_same : {X : Type 0} (actors : Actors) (posted : ℕ) (reply : X → Reply) (t : Table X) → Each (λ key x. WasThere actors posted (fm.contains_key t) key (reply x)) t
each_same actors posted reply t = record { at = λ key x is. record { there = λ m s e l. is_there t key x is } }

pub goes_same : (actors : Actors) (posted : ℕ) (w : Waiting) → Waits (WasThere actors posted (fm.contains_key w.messages)) (WasThere actors posted (fm.contains_key w.joins)) w
goes_same actors posted w = record { messages = each_same actors posted (λ m. m.reply) w.messages; joins = each_same actors posted (λ j. j.1.reply) w.joins }

-- ---- what grows, and what is weaker

pub each_weaker : {X : Type 0} (Q R : TableKey → X → Type 0) (t : Table X) → ((key : TableKey) (x : X) → Q key x → R key x) → Each Q t → Each R t
each_weaker Q R t g e = record { at = λ key x is. g key x (e.at key x is) }

pub owed_more : (actors actors' : Actors) (posted posted' : ℕ) → Grows actors posted actors' posted' → (r : Reply) → IsOwedOld actors posted r → IsOwedOld actors' posted' r
owed_more actors actors' posted posted' g Nobody h = tt
owed_more actors actors' posted posted' g (Tok maker n) h = omega (arith, h, g maker)
owed_more actors actors' posted posted' g (Place maker join at) h = omega (arith, h, g maker)
owed_more actors actors' posted posted' g (Outside n) h = tt

pub fits_more : (actors actors' : Actors) (posted posted' : ℕ) → Grows actors posted actors' posted' → (key : TableKey) (r : Reply) → Fits actors posted key r → Fits actors' posted' key r
fits_more actors actors' posted posted' g key r h = record { owed = owed_more actors actors' posted posted' g r h.owed; number = λ m s e. omega (arith, h.number m s e, g m) }

pub waits_more : (actors actors' : Actors) (posted posted' : ℕ) → Grows actors posted actors' posted' → (w : Waiting) → Waits (Fits actors posted) (Fits actors posted) w → Waits (Fits actors' posted') (Fits actors' posted') w
waits_more actors actors' posted posted' g w h = record {
  messages = each_weaker (λ key m. Fits actors posted key m.reply) (λ key m. Fits actors' posted' key m.reply) w.messages (λ key m. fits_more actors actors' posted posted' g key m.reply) h.messages;
  joins = each_weaker (λ key j. Fits actors posted key j.1.reply) (λ key j. Fits actors' posted' key j.1.reply) w.joins (λ key j. fits_more actors actors' posted posted' g key j.1.reply) h.joins;
}

pub grown : (actors : Actors) (posted : ℕ) → Grows actors posted actors posted
grown actors posted n = omega arith

-- ---- one change after another

was_there : {X : Type 0} (actors actors' : Actors) (posted posted' : ℕ) (before : TableKey → Bool) (reply : X → Reply) (t u : Table X) → Grows actors posted actors' posted' →
    Each (λ key x. WasThere actors posted before key (reply x)) t → Each (λ key x. WasThere actors' posted' (fm.contains_key t) key (reply x)) u → Each (λ key x. WasThere actors posted before key (reply x)) u
was_there actors actors' posted posted' before reply t u g e f = record {
  at = λ key x is. record {
    there = λ m s same l.
        let found = there_is t key ((f.at key x is).there m s same (omega (arith, l, g m))) in
        (e.at key found.0 found.1).there m s same l;
  };
}

pub goes_then : (actors actors' actors'' : Actors) (posted posted' posted'' : ℕ) (w w' w'' : Waiting) → Goes actors posted w actors' posted' w' → Goes actors' posted' w' actors'' posted'' w'' → Goes actors posted w actors'' posted'' w''
goes_then actors actors' actors'' posted posted' posted'' w w' w'' g h = record {
  grows = λ n. omega (arith, g.grows n, h.grows n);
  waits = record {
    messages = was_there actors actors' posted posted' (fm.contains_key w.messages) (λ m. m.reply) w'.messages w''.messages g.grows g.waits.messages h.waits.messages;
    joins = was_there actors actors' posted posted' (fm.contains_key w.joins) (λ j. j.1.reply) w'.joins w''.joins g.grows g.waits.joins h.waits.joins;
  };
}

-- ---- replies are given, and a message goes

pub kept_settled : (actors : Actors) (given : fs.FinSet key_cmp) (posted : ℕ) (w : Waiting) (gs : List DueReply) → Kept actors given posted w → Kept actors given posted (settle_all gs w)
kept_settled actors given posted w gs k = record { named = k.named; keyed = k.keyed; waits = waits_settled (Fits actors posted) (Fits actors posted) gs w k.waits }

pub goes_settled : (actors actors' : Actors) (posted posted' : ℕ) (w w' : Waiting) (gs : List DueReply) → Goes actors posted w actors' posted' w' → Goes actors posted w actors' posted' (settle_all gs w')
goes_settled actors actors' posted posted' w w' gs g = record { grows = g.grows; waits = waits_settled (WasThere actors posted (fm.contains_key w.messages)) (WasThere actors posted (fm.contains_key w.joins)) gs w' g.waits }

abbrev pub without : TableKey → Waiting → Waiting
without key w = record w { messages = write w.messages key None }

pub kept_without : (actors : Actors) (given : fs.FinSet key_cmp) (posted : ℕ) (w : Waiting) (key : TableKey) → Kept actors given posted w → Kept actors given posted (without key w)
kept_without actors given posted w key k = record { named = k.named; keyed = k.keyed; waits = waits_dropped (Fits actors posted) (Fits actors posted) w key k.waits }

pub goes_without : (actors : Actors) (posted : ℕ) (w : Waiting) (key : TableKey) → Goes actors posted w actors posted (without key w)
goes_without actors posted w key = record { grows = grown actors posted; waits = waits_dropped (WasThere actors posted (fm.contains_key w.messages)) (WasThere actors posted (fm.contains_key w.joins)) w key (goes_same actors posted w) }

pub gone : (w : Waiting) (key : TableKey) → fm.contains_key (without key w).messages key ≡ false
gone w key = ap is_some (get-write w.messages key None key ∙ ap (λ b. cond b None (fm.get w.messages key)) (words_refl key))

-- ---- new actors

pub split : (a b : Bool) → a && b ≡ true → (a ≡ true) × (b ≡ true)
split true b e = (refl, e)
split false b e = absurd cc

pub flipped : (b : Bool) → not b ≡ true → b ≡ false
flipped true e = absurd cc
flipped false e = refl

pub none_number : (t : Actors) (q : TableKey) → fm.contains_key t q ≡ false → next_serial_of (fm.get t q) ≡ 0
none_number t q e = at (fm.get t q) e
  where
    at : (o : Option (Actor × ℕ)) → is_some o ≡ false → next_serial_of o ≡ 0
    at None e = refl
    at (Some a) e = absurd cc

abbrev pub IsFreshFor : Actors → Actor → Type 0
IsFreshFor t x = (fm.contains_key t (name_key x.name) ≡ false) × IsActor x.name

pub number_here : (t : Actors) (k q : TableKey) (x : Actor × ℕ) → q ≡ k → next_serial_of (fm.get (write t k (Some x)) q) ≡ x.1
number_here t k q x e = ap next_serial_of (get-write t k (Some x) q ∙ ap (λ b. cond b (Some x) (fm.get t q)) (ap (λ z. key_eq z k) e ∙ words_refl k))

pub number_there : (t : Actors) (k q : TableKey) (x : Actor × ℕ) → key_eq q k ≡ false → next_serial_of (fm.get (write t k (Some x)) q) ≡ next_serial_of (fm.get t q)
number_there t k q x e = ap next_serial_of (get-write t k (Some x) q ∙ ap (λ b. cond b (Some x) (fm.get t q)) e)

pub put_grows : (es : List Actor) (t : Actors) (q : TableKey) → EachOf (IsFreshFor t) es → next_serial_of (fm.get t q) ≤ next_serial_of (fm.get (put_actors es t) q)
put_grows [] t q f = omega arith
put_grows (x ∷ es) t q f =
    elim (words_tells q (name_key x.name)) [
      | inl a ↦ let none = none_number t q (ap (fm.contains_key t) a.1 ∙ f.0.0) in omega (arith, none)
      | inr a ↦ omega (arith, number_there (put_actors es t) (name_key x.name) q (x, 0) a.0, put_grows es t q f.1)
    ]

pub put_keyed : (es : List Actor) (t old : Actors) → EachOf (IsFreshFor old) es → Each IsKeyed t → Each IsKeyed (put_actors es t)
put_keyed [] t old f e = e
put_keyed (x ∷ es) t old f e = each_written IsKeyed (put_actors es t) (name_key x.name) (Some (x, 0)) (put_keyed es t old f.1 e) (λ y is. let same : (x, 0) ≡ y = cc in subst (IsKeyed (name_key x.name)) same (record { keyed = refl; actor = f.0.1 }))

-- ---- the names that new actors take

at_front : (pre rest : List Name) (r : Name) → fresh_name (pre ++ r ∷ rest) (length pre) ≡ r
at_front pre rest r = at pre (length pre)
  where
    at : (pre : List Name) (i : ℕ) → name_or (slice_get (pre ++ r ∷ rest) (length pre)) i ≡ r
    at [] i = refl
    at (p ∷ pre) i = at pre i

pub named : (p : Name → Bool) (pre rest : List Name) (es : List Actor) → HaveFreshNames (pre ++ rest) (length pre) es → length rest ≡ length es → list_all p rest ≡ true → EachOf (λ x. p x.name ≡ true) es
named p pre rest [] a e l = tt
named p pre [] (x ∷ es) a e l = absurd (omega (arith, e))
named p pre (r ∷ rest) (x ∷ es) a e l =
    let q = split (p r) (list_all p rest) l in
    let list : pre ++ r ∷ rest ≡ (pre ++ r ∷ []) ++ rest = sym (append_assoc pre (r ∷ []) rest) in
    let place : length pre + 1 ≡ length (pre ++ r ∷ []) = omega (arith, length-append pre (r ∷ [])) in
    let more = subst (λ z. HaveFreshNames z (length (pre ++ r ∷ [])) es) list (subst (λ i. HaveFreshNames (pre ++ r ∷ rest) i es) place a.1) in
    (ap p (a.0 ∙ at_front pre rest r) ∙ q.0, named p (pre ++ r ∷ []) rest es more (omega (arith, e)) q.1)

pub anonymous_actor : (n : Name) → is_anonymous n ≡ true → IsActor n
anonymous_actor (name.Anon theatre i) e = tt
anonymous_actor (name.Uan u) e = tt
anonymous_actor (name.Outside i) e = absurd cc

-- ---- the numbers that a handler takes

pub number_same : (k : ℕ) → one_if_same k k ≡ 1
number_same k = ap (λ b. if b then 1 else 0) (eq-eqb k k refl)

pub one_at_least : {X : Type 0} (num : X → ℕ) (pre xs : List X) → EachOf (λ x. 1 ≤ f.total (λ y. one_if_same (num x) (num y)) (pre ++ xs)) xs
one_at_least num pre [] = tt
one_at_least num pre (x ∷ xs) =
    let more = one_at_least num (pre ++ x ∷ []) xs in (
      omega (arith, total_append (λ y. one_if_same (num x) (num y)) pre (x ∷ xs), number_same (num x)),
      subst (λ l. EachOf (λ z. 1 ≤ f.total (λ y. one_if_same (num z) (num y)) l) xs) (append_assoc pre (x ∷ []) xs) more,
    )

pub each_both : {X : Type 0} (P Q : X → Type 0) (xs : List X) → EachOf P xs → EachOf Q xs → EachOf (λ x. P x × Q x) xs
each_both P Q [] p q = tt
each_both P Q (x ∷ xs) p q = ((p.0, q.0), each_both P Q xs p.1 q.1)

pub within : (sizes : List ℕ) (c : Call) (e : Effects) → IsOrderly sizes c e → (k : ℕ) → 1 ≤ times_taken k e.messages e.joins e.creations → IsWithin c.serial e.serial k
within sizes c e o k l = (low (nat_le c.serial k) refl, high (nat_le e.serial k) refl)
  where
    low : (b : Bool) → nat_le c.serial k ≡ b → c.serial ≤ k
    low true is = leb-true c.serial k is
    low false is = let less : k < c.serial = leb-false c.serial k is in absurd (omega (arith, l, o.low k less))

    high : (b : Bool) → nat_le e.serial k ≡ b → k < e.serial
    high true is = absurd (omega (arith, l, o.high k (leb-true e.serial k is)))
    high false is = leb-false e.serial k is
