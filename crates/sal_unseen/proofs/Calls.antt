-- The theatre's call and that of the step.
use Rattle.std.proofs.Common.{◌≡◌, ℕ, zero, suc, ◌+◌, ◌≤◌, true, List, [], map, length, refl, sym, ap, ◌∙◌, arith}
use Rattle.sal_ast.specs.declared.program.Program.{Program}
use Rattle.sal_value.specs.declared.name.Name.{Name}
use Rattle.sal_handler.specs.Calls.{Call, Meaning, names_from, fresh_names}
use Rattle.sal_handler.specs.Fits.{meaning_of}
use Rattle.sal_handler.specs.Handler.{handle}
use Rattle.sal_handler.specs.declared.turn.Outcome.{Outcome}
use Rattle.sal_handler.specs.declared.turn.Outcome.TheVariants as outcome
use Rattle.sal_handler.proofs.Renamed.{traps_take_none, only_taken}
use Rattle.sal_handler.proofs.Counted.{fresh_counts}
use Rattle.sal_handler.proofs.Turns.{handlers_few}
use Rattle.sal_handler.proofs.FairCalls.{handlers_orderly}
use Rattle.sal_source.specs.Runners.{CallFits, StandsFor, behavior_or_migrate}
use Rattle.sal_source.proofs.Keeping.{split}
use Rattle.sal_routing.specs.Handling.{call_at, may_be_called}
use Rattle.sal_unseen.specs.Steps.{with_fresh}
use Rattle.sal_unseen.specs.Calls.{ProgramsTakeNamesOnly, TheatresCallAsSteps}

-- ---- programs

fits_program : (m : Meaning) (p : Program) → StandsFor m p → (c : Call) → CallFits m c → CallFits (meaning_of p) c
fits_program m p s c fits = record {
  state = sym (s.fits_state c.behavior c.fields) ∙ fits.state;
  call = sym (s.fits_call (behavior_or_migrate c.behavior c.handler) c.handler c.args) ∙ fits.call;
}

module _ (m : Meaning) (p : Program) (s : StandsFor m p) where
  its : (c : Call) → CallFits m c → m.outcome c ≡ handle p c
  its c fits = s.outcome c (fits_program m p s c fits)

  of_program : (c : Call) (o : Outcome) → CallFits m c → m.outcome c ≡ o → handle p c ≡ o
  of_program c o fits is = sym (its c fits) ∙ is

  with_names : (c : Call) (names : List Name) → CallFits m c → CallFits m (record c { names = names; fresh = 0 })
  with_names c names fits = record { state = fits.state; call = fits.call }

pub programs_take : ProgramsTakeNamesOnly
programs_take m p s = record {
  few = λ c e fits is. let few = (handlers_few p c e (of_program m p s c (outcome.Done e) fits is)).few in let both = few.2 in omega (arith, both);
  counts = λ c e fits is. fresh_counts.counts p c e (of_program m p s c (outcome.Done e) fits is);
  done = λ c e fits old few is.
      its m p s (record c { names = map (λ a. a.name) e.actors; fresh = 0 }) (with_names m p s c (map (λ a. a.name) e.actors) fits)
      ∙ fresh_counts.done p (record c { names = map (λ a. a.name) e.actors }) e 0 (only_taken p c e old few (of_program m p s c (outcome.Done e) fits is))
      ∙ (let zero_first : 0 + length e.actors ≡ length e.actors = omega arith in ap (λ n. outcome.Done (with_fresh n e)) zero_first);
  trap = λ c kind fits new is.
      its m p s (record c { names = []; fresh = 0 }) (with_names m p s c [] fits)
      ∙ fresh_counts.trap p (record c { names = [] }) kind 0 (traps_take_none p c kind new (of_program m p s c (outcome.Trap kind) fits is));
  orderly = λ c e fits old is. handlers_orderly p c e old (of_program m p s c (outcome.Done e) fits is);
}

-- ---- theatres

many_names : (place n k : ℕ) → length (names_from place n k) ≡ k
unfolding names_from
many_names place n zero = refl
many_names place n (suc k) = ap suc (many_names place (n + 1) k)

enough : (place n k : ℕ) → k ≤ 1024 → k ≤ length (fresh_names place n)
unfolding fresh_names
enough place n k few = let e = many_names place n 1024 in omega (arith, few, e)

call_fits : (p : Meaning) (c : Call) → may_be_called p c ≡ true → CallFits p c
unfolding may_be_called
call_fits p c e =
    let q = split (p.fits_state c.behavior c.fields) (p.fits_call (behavior_or_migrate c.behavior c.handler) c.handler c.args) e in
    record { state = q.0; call = q.1 }

pub call_as_steps : TheatresCallAsSteps
call_as_steps = record {
  done = λ sizes p m r t e takes may old is.
      let fits = call_fits p (call_at m r t) may in
      takes.done (call_at m r t) e fits old (enough t.me t.next_anon (length e.actors) (takes.few (call_at m r t) e fits is)) is;
  orderly = λ sizes p m r t e takes may old is.
      let fits = call_fits p (call_at m r t) may in
      let c : Call = record (call_at m r t) { names = map (λ a. a.name) e.actors; fresh = 0 } in
      takes.orderly c (with_fresh (length e.actors) e) (record { state = fits.state; call = fits.call }) old
      (takes.done (call_at m r t) e fits old (enough t.me t.next_anon (length e.actors) (takes.few (call_at m r t) e fits is)) is);
  next = λ sizes p m r t e takes may is. takes.counts (call_at m r t) e (call_fits p (call_at m r t) may) is;
  trap = λ sizes p m r t kind takes may new is. takes.trap (call_at m r t) kind (call_fits p (call_at m r t) may) new is;
}
