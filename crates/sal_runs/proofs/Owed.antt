-- Each address is owed once.
use Rattle.std.proofs.Common.{◌≡◌, ◌≢◌, ◌⊎◌, inl, inr, ℕ, zero, suc, ◌+◌, ◌≤◌, ◌<◌, Bool, true, false, cond, not, ◌&&◌, List, [], ◌∷◌, ◌++◌, map, Some, None, refl, sym, ap, subst, ◌∙◌, arith}
use Rattle.std.specs.Prelude.{if◌then◌else◌, nat_eq, nat_le, nat_lt}
use Rattle.std.specs.List.{list_all}
use Rattle.std.specs.FinMap as fm
use Rattle.std.specs.FinSet as fs
use Rattle.std.proofs.lemmas.Bool.{ltb-true, le-leb, leb-true}
use Rattle.sal_value.specs.declared.name.Name.{Name}
use Rattle.sal_value.specs.declared.name.Name.TheVariants as name
use Rattle.sal_value.specs.declared.name.Uan.{Uan}
use Rattle.sal_value.specs.declared.value.Value.{Value}
use Rattle.sal_value.specs.Names.{is_uan}
use Rattle.sal_value.specs.Spelling.{is_legal}
use Rattle.sal_ast.specs.declared.program.Program.{Program}
use Rattle.sal_mail.specs.declared.message.Reply.{Reply}
use Rattle.sal_mail.specs.declared.message.Reply.TheVariants.{Nobody, Tok, Place, Outside}
use Rattle.sal_mail.specs.declared.message.Message.{Message}
use Rattle.sal_mail.specs.declared.message.Join.{Join}
use Rattle.sal_mail.specs.declared.effects.Actor.{Actor}
use Rattle.sal_mail.specs.declared.effects.Creation.{Creation}
use Rattle.sal_mail.specs.declared.effects.Effects.{Effects}
use Rattle.sal_mail.specs.Message.{with_reply, is_full}
use Rattle.sal_mail.specs.ReplyKeys.{reply_key, owes}
use Rattle.sal_handler.specs.Fits.{meaning_of}
use Rattle.sal_handler.specs.declared.turn.Began.{Began}
use Rattle.sal_handler.specs.declared.turn.Began.TheVariants as began
use Rattle.sal_handler.specs.WellFormed.{EachOf, IsWithin, IsNewReply, IsAllowedReply, IsGoodMessage, IsOrderly, times_owed_by, program_sizes}
use Rattle.sal_handler.specs.WellFormed as f
use Rattle.sal_handler.proofs.Addresses.{owes_most, owes_by, owes_apart, some_address, token_token, token_place, place_place}
use Rattle.sal_source.specs.declared.state.Setup.{Setup}
use Rattle.sal_source.specs.Table.{TableKey, key_cmp, key_eq, Table, write, table_map, table_of, total, sum_values}
use Rattle.sal_source.specs.Keys.{name_key, made_key, message_key}
use Rattle.sal_source.specs.Configuration.{Waiting, Configuration, first_by, act_message}
use Rattle.sal_source.specs.Give.{DueReply, resolve, give_to, give_one, replies_if_legal, settle, settle_bound}
use Rattle.sal_source.specs.Laws.{times_owed}
use Rattle.sal_source.specs.Once.{one_if, next_serial_of, next_serial}
use Rattle.sal_source.specs.Posts.{fits_post, may_be_posted, post_message}
use Rattle.sal_source.specs.Step as s
use Rattle.sal_source.proofs.Commute.{len-weigh, join_falls, owes_own}
use Rattle.sal_source.proofs.Given.{contains_keys}
use Rattle.sal_source.proofs.Installing.{before_me, after_me, goes_installed}
use Rattle.sal_source.proofs.Keeping.{KeptIn, Grows, kept_without, split, none_number, number_there}
use Rattle.sal_source.proofs.Tables.{words_tells, values-table_of}
use Rattle.sal_source.proofs.Weights.{weigh-map, weigh-write, weight_of}
use Rattle.sal_runs.specs.Owed.{RunsOweOnce}
use Rattle.sal_runs.proofs.Invariants.{IsHandled, Invariant, plays}
use Rattle.sal_runs.proofs.Sound.{order}

-- ---- sums

abbrev head_of : List ℕ → ℕ
head_of [] = 0
head_of (x ∷ xs) = x

abbrev of_message : TableKey → Message → ℕ
of_message a m = owes a m.reply

abbrev of_join : TableKey → Name × Join → ℕ
of_join a j = owes a j.1.reply

-- how often an address is owed by what waits
abbrev owed : TableKey → Waiting → ℕ
owed a w = times_owed a [] w

written_least : {X : Type 0} (g : X → ℕ) (t : Table X) (k : TableKey) (x : X) → sum_values g (write t k (Some x)) ≤ sum_values g t + g x
written_least g t k x = let e = weigh-write g t k (Some x) in omega (arith, e)

put_least : (a : TableKey) (ms : List Message) (t : Table Message) → sum_values (of_message a) (s.put_messages ms t) ≤ sum_values (of_message a) t + f.total (λ (m : Message). owes a m.reply) ms
put_least a [] t = omega arith
put_least a (m ∷ ms) t = omega (arith, put_least a ms t, written_least (of_message a) (s.put_messages ms t) (message_key m) (record m { delay = 0 }))

opened_least : (a : TableKey) (maker : Name) (js : List Join) (t : Table (Name × Join)) → sum_values (of_join a) (s.put_joins maker js t) ≤ sum_values (of_join a) t + f.total (λ (j : Join). owes a j.reply) js
opened_least a maker [] t = omega arith
opened_least a maker (j ∷ js) t = by (is_full j) (opened_least a maker js t)
  where
    by : (b : Bool) → sum_values (of_join a) (s.put_joins maker js t) ≤ sum_values (of_join a) t + f.total (λ (x : Join). owes a x.reply) js
        → sum_values (of_join a) (if b then s.put_joins maker js t else s.put_join maker j (s.put_joins maker js t)) ≤ sum_values (of_join a) t + (owes a j.reply + f.total (λ (x : Join). owes a x.reply) js)
    by true rest = omega (arith, rest)
    by false rest = omega (arith, rest, written_least (of_join a) (s.put_joins maker js t) (made_key maker j.number) (maker, j))

-- ---- giving replies raises nothing

reply_resolve : (a : TableKey) (o : Name) (n : ℕ) (v : Value) (m : Message) → owes a (resolve o n v m).reply ≡ owes a m.reply
reply_resolve a o n v m = at (key_eq (name_key o) (name_key m.maker))
  where
    at : (b : Bool) → owes a (cond b (with_reply n v m) m).reply ≡ owes a m.reply
    at true = refl
    at false = refl

given_least : (a : TableKey) (r : Reply) (v : Value) (w : Waiting) → owed a (give_to r v w) ≤ owed a w
given_least a Nobody v w = omega arith
given_least a (Outside n) v w = omega arith
given_least a (Tok o n) v w =
    let e : sum_values (of_message a) (table_map (resolve o n v) w.messages) ≡ sum_values (of_message a) w.messages =
    weigh-map (resolve o n v) (of_message a) w.messages ∙ ap (λ (g : Message → ℕ). sum_values g w.messages) (λ i m. reply_resolve a o n v m i) in
    omega (arith, e)
given_least a (Place o j i) v w =
    let g = join_falls w.joins (made_key o j) i v (of_join a) (λ g. owes a g.0) (λ j. refl) (λ j. omega arith) in
    omega (arith, g)

one_least : (a : TableKey) (g : DueReply) (w : Waiting) → owed a (give_one g w) ≤ owed a w
one_least a g w = at (is_legal g.1)
  where
    at : (b : Bool) → owed a (cond b (give_to g.0 g.1 w) w) ≤ owed a w
    at true = given_least a g.0 g.1 w
    at false = omega arith

settle_least : (a : TableKey) (n : ℕ) (gs : List DueReply) (w : Waiting) → owed a (settle n gs w) ≤ owed a w
unfolding settle
settle_least a zero gs w = omega arith
settle_least a (suc n) [] w = omega arith
settle_least a (suc n) (g ∷ gs) w = omega (arith, settle_least a n (replies_if_legal g w ++ gs) (give_one g w), one_least a g w)

-- ---- addresses that aren't taken yet

abbrev IsUntaken : Configuration → Reply → Type 0
IsUntaken c Nobody = ⊥
IsUntaken c (Tok o n) = next_serial c.actors c.posted o ≤ n
IsUntaken c (Place o j i) = next_serial c.actors c.posted o ≤ j
IsUntaken c (Outside n) = c.posted < n

-- each address is owed once, and none that isn't taken yet
pub record Owed (c : Configuration) : Type 0 where
  pub once : (r : Reply) → r ≢ Nobody → owed (reply_key r) c.waiting ≤ 1
  pub untaken : (r : Reply) → IsUntaken c r → owed (reply_key r) c.waiting ≡ 0

untaken_some : (c : Configuration) (r : Reply) → IsUntaken c r → r ≢ Nobody
untaken_some c Nobody u = absurd u
untaken_some c (Tok o n) u = λ e. absurd cc
untaken_some c (Place o j i) u = λ e. absurd cc
untaken_some c (Outside n) u = λ e. absurd cc

-- where less is owed, and no number is given back
less_owed : (c d : Configuration) → Grows c.actors c.posted d.actors d.posted → c.posted ≤ d.posted → ((a : TableKey) → owed a d.waiting ≤ owed a c.waiting) → Owed c → Owed d
less_owed c d grows later less h = record {
  once = λ r some. omega (arith, less (reply_key r), h.once r some);
  untaken = λ r u. omega (arith, less (reply_key r), h.untaken r (before r u));
}
  where
    before : (r : Reply) → IsUntaken d r → IsUntaken c r
    before Nobody u = u
    before (Tok o n) u = omega (arith, u, grows o)
    before (Place o j i) u = omega (arith, u, grows o)
    before (Outside n) u = omega (arith, u, later)

same_grows : (c : Configuration) → Grows c.actors c.posted c.actors c.posted
same_grows c n = omega arith

dropped_least : (maker : Name) (serial : ℕ) (c : Configuration) (a : TableKey) → owed a (s.drop_message maker serial c).waiting ≤ owed a c.waiting
dropped_least maker serial c a = let e = weigh-write (of_message a) c.waiting.messages (made_key maker serial) None in omega (arith, e)

-- ---- a handler's effects

-- what is owed to an address by what the handler made: nothing, or it is the handled message's, or new
abbrev Whose : Name → Reply → ℕ → ℕ → TableKey → ℕ → Type 0
Whose me caller from to a n = (n ≡ 0) ⊎ ((a ≡ reply_key caller) ⊎ ((r : Reply) × (IsNewReply me from to r × (a ≡ reply_key r))))

whose_one : (me : Name) (caller : Reply) (from to : ℕ) (a : TableKey) (r : Reply) → (a ≡ [] → ⊥) → IsAllowedReply me caller from to r → Whose me caller from to a (owes a r)
whose_one me caller from to a r some allowed = elim (owes_by a r) [ inl e ↦ inr (at e allowed) | inr z ↦ inl z ]
  where
    at : a ≡ reply_key r → IsAllowedReply me caller from to r → (a ≡ reply_key caller) ⊎ ((q : Reply) × (IsNewReply me from to q × (a ≡ reply_key q)))
    at e (inl nobody) = absurd (some (e ∙ ap reply_key nobody))
    at e (inr (inl same)) = inl (e ∙ ap reply_key same)
    at e (inr (inr new)) = inr (r, (new, e))

whose_sum : (me : Name) (caller : Reply) (from to : ℕ) (a : TableKey) (m n : ℕ) → Whose me caller from to a m → Whose me caller from to a n → Whose me caller from to a (m + n)
whose_sum me caller from to a m n (inl z) (inl y) = inl (omega (arith, z, y))
whose_sum me caller from to a m n (inr w) q = inr w
whose_sum me caller from to a m n (inl z) (inr w) = inr w

whose_all : {X : Type 0} (reply : X → Reply) (me : Name) (caller : Reply) (from to : ℕ) (a : TableKey) (xs : List X) → (a ≡ [] → ⊥) → EachOf (λ x. IsAllowedReply me caller from to (reply x)) xs → Whose me caller from to a (f.total (λ x. owes a (reply x)) xs)
whose_all reply me caller from to a [] some h = inl refl
whose_all reply me caller from to a (x ∷ xs) some h = whose_sum me caller from to a (owes a (reply x)) (f.total (λ y. owes a (reply y)) xs) (whose_one me caller from to a (reply x) some h.0) (whose_all reply me caller from to a xs some h.1)

each_more : {X : Type 0} (P Q : X → Type 0) (xs : List X) → ((x : X) → P x → Q x) → EachOf P xs → EachOf Q xs
each_more P Q [] g h = tt
each_more P Q (x ∷ xs) g h = (g x h.0, each_more P Q xs g h.1)

module _ (p : Program) (c : Configuration) (maker : Name) (serial : ℕ) (m : Message) (a : Actor × ℕ) (fresh : List Name) (e : Effects) (k : IsHandled p c maker serial m a fresh e) (h : Owed c) where
  abbrev me : Name
  me = a.0.name

  abbrev left : Configuration
  left = s.drop_message maker serial c

  abbrev after : Configuration
  after = s.with_effects e a.0 left

  kept_left : KeptIn left
  kept_left = kept_without c.actors c.given c.posted c.waiting (made_key maker serial) k.kept

  grows : Grows c.actors c.posted after.actors after.posted
  grows = (goes_installed left kept_left m a fresh e (program_sizes p) k.actor k.keyed.actor (k.kept.waits.messages.at (made_key maker serial) m k.pending).owed (order p c maker serial m a fresh e k) k.fits).grows

  now : next_serial c.actors c.posted me ≡ a.1
  now = before_me left kept_left m a fresh e (program_sizes p) k.actor k.keyed.actor (k.kept.waits.messages.at (made_key maker serial) m k.pending).owed (order p c maker serial m a fresh e k) k.fits

  then_ : next_serial after.actors after.posted me ≡ e.serial
  then_ = after_me left kept_left m a fresh e (program_sizes p) k.actor k.keyed.actor (k.kept.waits.messages.at (made_key maker serial) m k.pending).owed (order p c maker serial m a fresh e k) k.fits

  good : IsOrderly (program_sizes p) (s.call_of m a fresh) e
  good = order p c maker serial m a fresh e k

  -- the handled message's address is free again
  freed : (b : TableKey) → owed b left.waiting + owes b m.reply ≡ owed b c.waiting
  freed b =
      let w = weigh-write (of_message b) c.waiting.messages (made_key maker serial) None in
      let x : weight_of (of_message b) (fm.get c.waiting.messages (made_key maker serial)) ≡ owes b m.reply = ap (weight_of (of_message b)) k.pending in
      omega (arith, w, x)

  most : (b : TableKey) → owed b after.waiting ≤ owed b left.waiting + times_owed_by b e.messages e.joins
  most b = omega (arith, put_least b e.messages left.waiting.messages, opened_least b me e.joins left.waiting.joins)

  whose : (b : TableKey) → (b ≡ [] → ⊥) → Whose me m.reply a.1 e.serial b (times_owed_by b e.messages e.joins)
  whose b some =
      whose_sum me m.reply a.1 e.serial b (f.total (λ (x : Message). owes b x.reply) e.messages) (f.total (λ (j : Join). owes b j.reply) e.joins)
      (whose_all (λ (x : Message). x.reply) me m.reply a.1 e.serial b e.messages some (each_more (IsGoodMessage me m.reply a.1 e.serial (program_sizes p)) (λ (x : Message). IsAllowedReply me m.reply a.1 e.serial x.reply) e.messages (λ x g. g.reply) good.messages))
      (whose_all (λ (j : Join). j.reply) me m.reply a.1 e.serial b e.joins some good.joins)

  -- a new address wasn't taken before
  new_untaken : (r : Reply) → IsNewReply me a.1 e.serial r → IsUntaken c r
  new_untaken Nobody n = absurd n
  new_untaken (Tok o n) w = let same : next_serial c.actors c.posted o ≡ a.1 = ap (next_serial c.actors c.posted) w.0 ∙ now in omega (arith, same, w.1.0)
  new_untaken (Place o j i) w = let same : next_serial c.actors c.posted o ≡ a.1 = ap (next_serial c.actors c.posted) w.0 ∙ now in omega (arith, same, w.1.0)
  new_untaken (Outside n) w = absurd w

  -- and is taken afterwards
  new_taken : (r q : Reply) → IsNewReply me a.1 e.serial q → reply_key r ≡ reply_key q → IsUntaken after r → ⊥
  new_taken r Nobody w same u = absurd w
  new_taken r (Outside n) w same u = absurd w
  new_taken Nobody (Tok o n) w same u = u
  new_taken (Tok x k) (Tok o n) w same u =
      let t = token_token x o k n same in
      let next : next_serial after.actors after.posted x ≡ e.serial = ap (next_serial after.actors after.posted) (t.1 ∙ w.0) ∙ then_ in
      absurd (omega (arith, u, next, t.0, w.1.1))
  new_taken (Place x j i) (Tok o n) w same u = token_place o x n j i (sym same)
  new_taken (Outside k) (Tok o n) w same u = let bad : ◌≡◌ {A = ℕ} 2 0 = ap head_of same in absurd (omega (arith, bad))
  new_taken Nobody (Place o j i) w same u = u
  new_taken (Tok x k) (Place o j i) w same u = token_place x o k j i same
  new_taken (Place x y z) (Place o j i) w same u =
      let t = place_place x o y z j i same in
      let next : next_serial after.actors after.posted x ≡ e.serial = ap (next_serial after.actors after.posted) (t.2 ∙ w.0) ∙ then_ in
      absurd (omega (arith, u, next, t.1, w.1.1))
  new_taken (Outside k) (Place o j i) w same u = let bad : ◌≡◌ {A = ℕ} 2 1 = ap head_of same in absurd (omega (arith, bad))

  before : (r : Reply) → IsUntaken after r → IsUntaken c r
  before Nobody u = u
  before (Tok o n) u = omega (arith, u, grows o)
  before (Place o j i) u = omega (arith, u, grows o)
  before (Outside n) u = u

  once_after : (r : Reply) → r ≢ Nobody → owed (reply_key r) after.waiting ≤ 1
  once_after r some =
      let b : TableKey = reply_key r in
      let new : times_owed_by b e.messages e.joins ≤ 1 = good.owed_once r some in
      elim (whose b (some_address r some)) [
        | inl none ↦ omega (arith, none, most b, freed b, h.once r some)
        | inr (inl caller) ↦
            let one : owes b m.reply ≡ 1 = ap (λ x. owes x m.reply) caller ∙ owes_own m.reply in
            omega (arith, new, most b, freed b, h.once r some, one)
        | inr (inr q) ↦
            let free : owed b c.waiting ≡ 0 = ap (λ x. owed x c.waiting) q.1.1 ∙ h.untaken q.0 (new_untaken q.0 q.1.0) in
            omega (arith, new, most b, freed b, free)
      ]

  untaken_after : (r : Reply) → IsUntaken after r → owed (reply_key r) after.waiting ≡ 0
  untaken_after r u =
      let b : TableKey = reply_key r in
      let free : owed b c.waiting ≡ 0 = h.untaken r (before r u) in
      elim (whose b (some_address r (untaken_some after r u))) [
        | inl none ↦ omega (arith, none, most b, freed b, free)
        | inr (inl caller) ↦
            let one : owes b m.reply ≡ 1 = ap (λ x. owes x m.reply) caller ∙ owes_own m.reply in
            absurd (omega (arith, one, freed b, free))
        | inr (inr q) ↦ absurd (new_taken r q.0 q.1.0 q.1.1 u)
      ]

  pub worked_owed : Owed after
  worked_owed = record { once = once_after; untaken = untaken_after }

-- ---- posts and creations

post_grows : (c : Configuration) (number : ℕ) → c.posted < number → Grows c.actors c.posted c.actors number
post_grows c number less (name.Anon theatre n) = omega arith
post_grows c number less (name.Uan u) = omega arith
post_grows c number less (name.Outside n) = at (nat_le n c.posted) refl
  where
    at : (b : Bool) → nat_le n c.posted ≡ b → one_if b ≤ one_if (nat_le n number)
    at false e = omega arith
    at true e = let later : nat_le n number ≡ true = le-leb n number (omega (arith, leb-true n c.posted e, less)) in omega (arith, ap one_if later)

outside_same : (r : Reply) (number : ℕ) → reply_key r ≡ reply_key (Outside number) → r ≡ Outside number
outside_same Nobody number e = absurd cc
outside_same (Tok o n) number e = let bad : ◌≡◌ {A = ℕ} 0 2 = ap head_of e in absurd (omega (arith, bad))
outside_same (Place o j i) number e = let bad : ◌≡◌ {A = ℕ} 1 2 = ap head_of e in absurd (omega (arith, bad))
outside_same (Outside n) number e = let same : n ≡ number = cc in ap Outside same

posted_owed : (number : ℕ) (to : Uan) (behavior handler : ℕ) (args : List Value) (c : Configuration) → fits_post c.posted number to behavior args ≡ true → Owed c → Owed (s.after_post number to behavior handler args c)
posted_owed number to behavior handler args c q h = record { once = once; untaken = untaken }
  where
    less : c.posted < number
    less = ltb-true c.posted number (split (nat_lt c.posted number) (is_uan to && (not (nat_eq behavior 65535) && list_all may_be_posted args)) q).0

    most : (a : TableKey) → owed a (s.after_post number to behavior handler args c).waiting ≤ owed a c.waiting + owes a (Outside number)
    most a = omega (arith, put_least a (post_message number to behavior handler args ∷ []) c.waiting.messages)

    once : (r : Reply) → r ≢ Nobody → owed (reply_key r) (s.after_post number to behavior handler args c).waiting ≤ 1
    once r some =
        elim (owes_by (reply_key r) (Outside number)) [
          | inl e ↦
              let free : owed (reply_key r) c.waiting ≡ 0 = ap (λ a. owed a c.waiting) e ∙ h.untaken (Outside number) less in
              omega (arith, most (reply_key r), free, owes_most (reply_key r) (Outside number))
          | inr z ↦ omega (arith, most (reply_key r), z, h.once r some)
        ]

    before : (r : Reply) → IsUntaken (s.after_post number to behavior handler args c) r → IsUntaken c r
    before Nobody u = u
    before (Tok o n) u = omega (arith, u, post_grows c number less o)
    before (Place o j i) u = omega (arith, u, post_grows c number less o)
    before (Outside n) u = omega (arith, u, less)

    apart : (r : Reply) → IsUntaken (s.after_post number to behavior handler args c) r → reply_key r ≡ reply_key (Outside number) → ⊥
    apart r u e = at (subst (IsUntaken (s.after_post number to behavior handler args c)) (outside_same r number e) u)
      where
        at : number < number → ⊥
        at l = absurd (omega (arith, l))

    untaken : (r : Reply) → IsUntaken (s.after_post number to behavior handler args c) r → owed (reply_key r) (s.after_post number to behavior handler args c).waiting ≡ 0
    untaken r u = omega (arith, most (reply_key r), h.untaken r (before r u), owes_apart (reply_key r) (Outside number) (apart r u))

bound_owed : (maker : Name) (serial : ℕ) (x : Name × Creation) (c : Configuration) → KeptIn c → s.is_given x.1 c ≡ false → Owed c → Owed (s.bind_creation x.1 (s.drop_creation maker serial c))
bound_owed maker serial x c kept free h = less_owed c there grows (omega arith) (λ a. omega arith) h
  where
    there : Configuration
    there = s.bind_creation x.1 (s.drop_creation maker serial c)

    who : Name
    who = name.Uan x.1.name

    new : Actor × ℕ
    new = (s.bound_actor x.1, 0)

    grew : (q : TableKey) → next_serial_of (fm.get c.actors q) ≤ next_serial_of (fm.get there.actors q)
    grew q =
        let absent : fm.contains_key c.actors (name_key who) ≡ false = sym (contains_keys c.actors (name_key who)) ∙ ap (λ g. fs.contains g (name_key who)) (sym kept.named) ∙ free in
        elim (words_tells q (name_key who)) [
          | inl a ↦ let none = none_number c.actors q (ap (fm.contains_key c.actors) a.1 ∙ absent) in omega (arith, none)
          | inr a ↦ omega (arith, number_there c.actors (name_key who) q new a.0)
        ]

    grows : Grows c.actors c.posted there.actors there.posted
    grows (name.Anon theatre n) = grew (name_key (name.Anon theatre n))
    grows (name.Uan u) = grew (name_key (name.Uan u))
    grows (name.Outside n) = omega arith

-- ---- the law

owing : (p : Program) (setup : Setup) → Invariant p setup Owed
owing p setup = record {
  dropped = λ maker serial c h. less_owed c (s.drop_message maker serial c) (same_grows c) (omega arith) (dropped_least maker serial c) h;
  failed = λ kind maker serial c h. less_owed c (s.add_fault kind maker serial c) (same_grows c) (omega arith) (λ a. omega arith) h;
  worked = λ c maker serial m a fresh e k h. worked_owed p c maker serial m a fresh e k h;
  given = λ gs c h. less_owed c _ (same_grows c) (omega arith) (λ a. settle_least a (settle_bound gs c.waiting) gs c.waiting) h;
  printed = λ text c h. less_owed c (s.add_output text c) (same_grows c) (omega arith) (λ a. omega arith) h;
  unmade = λ maker serial c h. less_owed c (s.drop_creation maker serial c) (same_grows c) (omega arith) (λ a. omega arith) h;
  bound = λ maker serial x c kept found served free h. bound_owed maker serial x c kept free h;
  posted = posted_owed;
}

-- a sum of numbers that are 0 or 1 is no more than there are
total_most : {X : Type 0} (g : X → ℕ) (xs : List X) → ((x : X) → g x ≤ 1) → total g xs ≤ total (λ x. 1) xs
total_most g [] l = omega arith
total_most g (x ∷ xs) l = omega (arith, l x, total_most g xs l)

none_empty : {X : Type 0} (g : X → ℕ) → ((x : X) → g x ≤ 1) → sum_values g (fm.empty {X = X} {R = key_cmp}) ≡ 0
none_empty {X} g l =
    let most = total_most (λ (e : TableKey × X). g e.1) (fm.entries (fm.empty {X = X} {R = key_cmp})) (λ e. l e.1) in
    let len = len-weigh (fm.empty {X = X} {R = key_cmp}) in
    omega (arith, most, len, fm.len-empty key_cmp X)

total_values : {X : Type 0} (g : X → ℕ) (es : List (TableKey × X)) → total (λ (e : TableKey × X). g e.1) es ≡ total g (map (λ e. e.1) es)
total_values g [] = refl
total_values g (e ∷ es) = ap (λ n. g e.1 + n) (total_values g es)

sum_of_one : {X : Type 0} (key : X → TableKey) (g : X → ℕ) (x : X) → sum_values g (table_of key (x ∷ [])) ≡ g x
sum_of_one key g x =
    let e = total_values g (fm.entries (table_of key (x ∷ []))) ∙ ap (total g) (values-table_of key (x ∷ []) tt) in
    omega (arith, e)

first_owed : (words : List Value) (b : Began) → Owed (first_by words b)
first_owed words b = record { once = λ r some. omega (arith, none r some); untaken = λ r u. none r (untaken_some (first_by words b) r u) }
  where
    none : (r : Reply) → r ≢ Nobody → owed (reply_key r) (first_by words b).waiting ≡ 0
    none r some = by b
      where
        joins : sum_values (of_join (reply_key r)) fm.empty ≡ 0
        joins = none_empty (of_join (reply_key r)) (λ j. owes_most (reply_key r) j.1.reply)

        by : (b : Began) → owed (reply_key r) (first_by words b).waiting ≡ 0
        by (began.Actor behavior handler fields) =
            let act = sum_of_one message_key (of_message (reply_key r)) (act_message words behavior handler) in
            let free : owes (reply_key r) Nobody ≡ 0 = owes_apart (reply_key r) Nobody (some_address r some) in
            omega (arith, joins, act, free)
        by (began.Trap kind) = omega (arith, joins, none_empty (of_message (reply_key r)) (λ (m : Message). owes_most (reply_key r) m.reply))

pub owe_once : RunsOweOnce
owe_once p setup ss c is r some = (plays p setup Owed (owing p setup) ss c (first_owed setup.words (meaning_of p).begin) is).here.once r some
