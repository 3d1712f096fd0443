-- No open join is full.
use Rattle.std.proofs.Common.{◌≡◌, ℕ, zero, suc, Bool, true, false, cond, List, [], ◌∷◌, ◌++◌, Option, Some, None, refl, subst}
use Rattle.std.specs.Prelude.{if◌then◌else◌, option_and_then}
use Rattle.std.specs.FinMap as fm
use Rattle.sal_value.specs.declared.name.Name.{Name}
use Rattle.sal_value.specs.declared.value.Value.{Value}
use Rattle.sal_value.specs.Spelling.{is_legal}
use Rattle.sal_mail.specs.declared.message.Reply.{Reply}
use Rattle.sal_mail.specs.declared.message.Reply.TheVariants.{Nobody, Tok, Place, Outside}
use Rattle.sal_mail.specs.declared.message.Join.{Join}
use Rattle.sal_mail.specs.Message.{with_slot, is_full}
use Rattle.sal_handler.specs.declared.turn.Began.{Began}
use Rattle.sal_handler.specs.declared.turn.Began.TheVariants as began
use Rattle.sal_handler.specs.Calls.{Meaning}
use Rattle.sal_handler.specs.Fits.{meaning_of}
use Rattle.sal_source.specs.declared.state.Setup.{Setup}
use Rattle.sal_source.specs.declared.state.Step.{Step}
use Rattle.sal_source.specs.Table.{TableKey, Table}
use Rattle.sal_source.specs.Keys.{made_key}
use Rattle.sal_source.specs.Configuration.{Waiting, Configuration, first_by}
use Rattle.sal_source.specs.Give.{DueReply, join_after_value, owned_join_with_slot, give_to, give_one, replies_if_legal, settle, settle_bound}
use Rattle.sal_source.specs.Step.{put_join, put_joins, step}
use Rattle.sal_source.specs.Run.{steps}
use Rattle.sal_source.proofs.Once.{Each, each_written, each_none}
use Rattle.sal_runs.specs.Kept.{OpenJoinsLackValues}
use Rattle.sal_runs.proofs.Steps.{some_is, Relates, related}

abbrev Lacks : TableKey → Name × Join → Type 0
Lacks key j = is_full j.1 ≡ false

abbrev Joins : Type 0
Joins = Table (Name × Join)

-- ---- giving

after_value : (at : ℕ) (value : Value) (o : Option (Name × Join)) (x : Name × Join) → join_after_value at value o ≡ Some x → is_full x.1 ≡ false
after_value at value None x is = absurd cc
after_value at value (Some j) x is = by (is_full (with_slot at value j.1)) refl is
  where
    by : (b : Bool) → is_full (with_slot at value j.1) ≡ b → cond b None (Some (owned_join_with_slot at value j)) ≡ Some x → is_full x.1 ≡ false
    by true full is = absurd cc
    by false lacks is = subst (λ (z : Name × Join). is_full z.1 ≡ false) (some_is is) lacks

lacks_given : (r : Reply) (value : Value) (w : Waiting) → Each Lacks w.joins → Each Lacks (give_to r value w).joins
lacks_given Nobody value w h = h
lacks_given (Outside number) value w h = h
lacks_given (Tok maker number) value w h = h
lacks_given (Place maker join at) value w h =
    each_written Lacks w.joins (made_key maker join) (join_after_value at value (fm.get w.joins (made_key maker join))) h (after_value at value (fm.get w.joins (made_key maker join)))

lacks_one : (g : DueReply) (w : Waiting) → Each Lacks w.joins → Each Lacks (give_one g w).joins
lacks_one g w h = at (is_legal g.1)
  where
    at : (b : Bool) → Each Lacks (cond b (give_to g.0 g.1 w) w).joins
    at true = lacks_given g.0 g.1 w h
    at false = h

lacks_settle : (n : ℕ) (gs : List DueReply) (w : Waiting) → Each Lacks w.joins → Each Lacks (settle n gs w).joins
unfolding settle
lacks_settle zero gs w h = h
lacks_settle (suc n) [] w h = h
lacks_settle (suc n) (g ∷ gs) w h = lacks_settle n (replies_if_legal g w ++ gs) (give_one g w) (lacks_one g w h)

-- ---- opening

lacks_opened : (maker : Name) (js : List Join) (t : Joins) → Each Lacks t → Each Lacks (put_joins maker js t)
lacks_opened maker [] t h = h
lacks_opened maker (j ∷ js) t h = by (is_full j) refl (lacks_opened maker js t h)
  where
    by : (b : Bool) → is_full j ≡ b → Each Lacks (put_joins maker js t) → Each Lacks (if b then put_joins maker js t else put_join maker j (put_joins maker js t))
    by true full rest = rest
    by false lacks rest =
        each_written Lacks (put_joins maker js t) (made_key maker j.number) (Some (maker, j)) rest (λ x is. subst (λ (z : Name × Join). is_full z.1 ≡ false) (some_is is) lacks)

-- ---- steps and runs

abbrev LackIn : Configuration → Type 0
LackIn c = Each Lacks c.waiting.joins

lacking : (setup : Setup) → Relates setup (λ c d. LackIn c → LackIn d)
lacking setup = record {
  compose = λ c d e f g h. g (f h);
  dropped = λ maker serial c h. h;
  failed = λ kind maker serial c h. h;
  worked = λ e a fresh c fits h. lacks_opened a.name e.joins c.waiting.joins h;
  given = λ gs c h. lacks_settle (settle_bound gs c.waiting) gs c.waiting h;
  printed = λ text c h. h;
  unmade = λ maker serial c h. h;
  bound = λ x c served h. h;
  posted = λ number to behavior handler args c h. h;
}

first_lacks : (words : List Value) (b : Began) → LackIn (first_by words b)
first_lacks words (began.Actor behavior handler fields) = each_none Lacks
first_lacks words (began.Trap kind) = each_none Lacks

run_lacks : (p : Meaning) (setup : Setup) (ss : List Step) (c end : Configuration) → LackIn c → steps p setup c ss ≡ Some end → LackIn end
unfolding steps
run_lacks p setup [] c end h is = subst LackIn (some_is is) h
run_lacks p setup (s ∷ ss) c end h is = at (step p setup c s) refl is (λ d. run_lacks p setup ss d end)
  where
    at : (o : Option Configuration) → step p setup c s ≡ o → option_and_then (λ d. steps p setup d ss) o ≡ Some end
        → ((d : Configuration) → LackIn d → steps p setup d ss ≡ Some end → LackIn end) → LackIn end
    at None e f later = absurd cc
    at (Some d) e f later = later d (related setup (λ c d. LackIn c → LackIn d) (lacking setup) p s c d e h) f

pub all_lack : OpenJoinsLackValues
all_lack q setup ss c is = (run_lacks (meaning_of q) setup ss _ c (first_lacks setup.words (meaning_of q).begin) is).at
