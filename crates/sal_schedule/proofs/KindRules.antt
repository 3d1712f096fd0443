-- The rules of events, by what was found of their words.
use Rattle.std.proofs.Common.{◌≡◌, ℕ, suc, Bool, true, false, ◌||◌, Some, None, List, [], ◌∷◌, ◌++◌, length, refl, nat_le, nat_lt, arith}
use Rattle.std.proofs.lemmas.Bool.Decides.{nat_tests}
use Rattle.std.specs.Prelude.{nat_eq}
use Rattle.sal_value.specs.declared.name.Uan.{Uan}
use Rattle.sal_value.specs.declared.value.Value.{Value}
use Rattle.sal_value.specs.Names.{uan_of}
use Rattle.sal_mail.specs.declared.plan.Plan.{Plan}
use Rattle.sal_ast.specs.declared.program.Program.{Program}
use Rattle.sal_literals.specs.Reading.{number_of}
use Rattle.sal_events.specs.declared.event.Event.TheVariants as event
use Rattle.sal_schedule.specs.declared.constants.TheConstants.{MOST_ROUNDS}
use Rattle.sal_schedule.specs.declared.kind.Kind.TheVariants as kind
use Rattle.sal_schedule.specs.Events.{each, legal_value_of, call_of, step_of, push_of, deliver_of, clock_of, move_of, delete_of, settle_of, call_from}
use Rattle.sal_schedule.specs.Rules.{is_theatre, is_service, form_rules, post_rules, lowest_from}

-- ---- step

pub step_length : (plan : Plan) (ws : List (List ℕ)) → nat_eq (length ws) 2 ≡ false → lowest_from 3 (form_rules plan kind.Step ws) ≡ Some 3
unfolding form_rules
step_length plan ws e = rw e refl

pub step_bad_1 : (plan : Plan) (ws : List (List ℕ)) (k i : List ℕ) → ws ≡ k ∷ i ∷ [] → None ≡ number_of k → lowest_from 3 (form_rules plan kind.Step ws) ≡ Some 4
unfolding form_rules
step_bad_1 plan ws k i cut bad = rw (cut, ← bad) refl

pub step_bad_2 : (plan : Plan) (ws : List (List ℕ)) (k i : List ℕ) (n : ℕ) → ws ≡ k ∷ i ∷ [] → Some n ≡ number_of k → None ≡ number_of i → lowest_from 3 (form_rules plan kind.Step ws) ≡ Some 4
unfolding form_rules
step_bad_2 plan ws k i n cut e1 bad = rw (cut, ← e1, ← bad) refl

pub step_bad_3 : (plan : Plan) (ws : List (List ℕ)) (k i : List ℕ) (n : ℕ) (m : ℕ) → ws ≡ k ∷ i ∷ [] → Some n ≡ number_of k → Some m ≡ number_of i → is_theatre plan n ≡ false → lowest_from 3 (form_rules plan kind.Step ws) ≡ Some 5
unfolding form_rules
step_bad_3 plan ws k i n m cut e1 e2 bad = rw (cut, ← e1, ← e2, bad) refl

pub step_good : (plan : Plan) (ws : List (List ℕ)) (k i : List ℕ) (n : ℕ) (m : ℕ) → ws ≡ k ∷ i ∷ [] → Some n ≡ number_of k → Some m ≡ number_of i → is_theatre plan n ≡ true → lowest_from 3 (form_rules plan kind.Step ws) ≡ None
unfolding form_rules
step_good plan ws k i n m cut e1 e2 e3 = rw (cut, ← e1, ← e2, e3) refl

pub step_is : (ws : List (List ℕ)) (k i : List ℕ) (n : ℕ) (m : ℕ) → ws ≡ k ∷ i ∷ [] → Some n ≡ number_of k → Some m ≡ number_of i → step_of ws ≡ Some (event.Step n m)
step_is ws k i n m cut e1 e2 = rw (cut, ← e1, ← e2) refl

-- ---- push

pub push_length : (plan : Plan) (ws : List (List ℕ)) → nat_eq (length ws) 1 ≡ false → lowest_from 3 (form_rules plan kind.Push ws) ≡ Some 3
unfolding form_rules
push_length plan ws e = rw e refl

pub push_bad_1 : (plan : Plan) (ws : List (List ℕ)) (k : List ℕ) → ws ≡ k ∷ [] → None ≡ number_of k → lowest_from 3 (form_rules plan kind.Push ws) ≡ Some 4
unfolding form_rules
push_bad_1 plan ws k cut bad = rw (cut, ← bad) refl

pub push_bad_2 : (plan : Plan) (ws : List (List ℕ)) (k : List ℕ) (n : ℕ) → ws ≡ k ∷ [] → Some n ≡ number_of k → (is_theatre plan n || is_service plan n) ≡ false → lowest_from 3 (form_rules plan kind.Push ws) ≡ Some 5
unfolding form_rules
push_bad_2 plan ws k n cut e1 bad = rw (cut, ← e1, bad) refl

pub push_good : (plan : Plan) (ws : List (List ℕ)) (k : List ℕ) (n : ℕ) → ws ≡ k ∷ [] → Some n ≡ number_of k → (is_theatre plan n || is_service plan n) ≡ true → lowest_from 3 (form_rules plan kind.Push ws) ≡ None
unfolding form_rules
push_good plan ws k n cut e1 e2 = rw (cut, ← e1, e2) refl

pub push_is : (ws : List (List ℕ)) (k : List ℕ) (n : ℕ) → ws ≡ k ∷ [] → Some n ≡ number_of k → push_of ws ≡ Some (event.Push n)
push_is ws k n cut e1 = rw (cut, ← e1) refl

-- ---- deliver

pub deliver_length : (plan : Plan) (ws : List (List ℕ)) → nat_eq (length ws) 1 ≡ false → lowest_from 3 (form_rules plan kind.Deliver ws) ≡ Some 3
unfolding form_rules
deliver_length plan ws e = rw e refl

pub deliver_bad_1 : (plan : Plan) (ws : List (List ℕ)) (i : List ℕ) → ws ≡ i ∷ [] → None ≡ number_of i → lowest_from 3 (form_rules plan kind.Deliver ws) ≡ Some 4
unfolding form_rules
deliver_bad_1 plan ws i cut bad = rw (cut, ← bad) refl

pub deliver_good : (plan : Plan) (ws : List (List ℕ)) (i : List ℕ) (n : ℕ) → ws ≡ i ∷ [] → Some n ≡ number_of i → lowest_from 3 (form_rules plan kind.Deliver ws) ≡ None
unfolding form_rules
deliver_good plan ws i n cut e1 = rw (cut, ← e1) refl

pub deliver_is : (ws : List (List ℕ)) (i : List ℕ) (n : ℕ) → ws ≡ i ∷ [] → Some n ≡ number_of i → deliver_of ws ≡ Some (event.Deliver n)
deliver_is ws i n cut e1 = rw (cut, ← e1) refl

-- ---- clock

pub clock_length : (plan : Plan) (ws : List (List ℕ)) → nat_eq (length ws) 2 ≡ false → lowest_from 3 (form_rules plan kind.Clock ws) ≡ Some 3
unfolding form_rules
clock_length plan ws e = rw e refl

pub clock_bad_1 : (plan : Plan) (ws : List (List ℕ)) (k i : List ℕ) → ws ≡ k ∷ i ∷ [] → None ≡ number_of k → lowest_from 3 (form_rules plan kind.Clock ws) ≡ Some 4
unfolding form_rules
clock_bad_1 plan ws k i cut bad = rw (cut, ← bad) refl

pub clock_bad_2 : (plan : Plan) (ws : List (List ℕ)) (k i : List ℕ) (n : ℕ) → ws ≡ k ∷ i ∷ [] → Some n ≡ number_of k → None ≡ number_of i → lowest_from 3 (form_rules plan kind.Clock ws) ≡ Some 4
unfolding form_rules
clock_bad_2 plan ws k i n cut e1 bad = rw (cut, ← e1, ← bad) refl

pub clock_bad_3 : (plan : Plan) (ws : List (List ℕ)) (k i : List ℕ) (n : ℕ) (m : ℕ) → ws ≡ k ∷ i ∷ [] → Some n ≡ number_of k → Some m ≡ number_of i → (is_theatre plan n || is_service plan n) ≡ false → lowest_from 3 (form_rules plan kind.Clock ws) ≡ Some 5
unfolding form_rules
clock_bad_3 plan ws k i n m cut e1 e2 bad = rw (cut, ← e1, ← e2, bad) refl

pub clock_good : (plan : Plan) (ws : List (List ℕ)) (k i : List ℕ) (n : ℕ) (m : ℕ) → ws ≡ k ∷ i ∷ [] → Some n ≡ number_of k → Some m ≡ number_of i → (is_theatre plan n || is_service plan n) ≡ true → lowest_from 3 (form_rules plan kind.Clock ws) ≡ None
unfolding form_rules
clock_good plan ws k i n m cut e1 e2 e3 = rw (cut, ← e1, ← e2, e3) refl

pub clock_is : (ws : List (List ℕ)) (k i : List ℕ) (n : ℕ) (m : ℕ) → ws ≡ k ∷ i ∷ [] → Some n ≡ number_of k → Some m ≡ number_of i → clock_of ws ≡ Some (event.Clock n m)
clock_is ws k i n m cut e1 e2 = rw (cut, ← e1, ← e2) refl

-- ---- move

pub move_length : (plan : Plan) (ws : List (List ℕ)) → nat_eq (length ws) 3 ≡ false → lowest_from 3 (form_rules plan kind.Move ws) ≡ Some 3
unfolding form_rules
move_length plan ws e = rw e refl

pub move_bad_1 : (plan : Plan) (ws : List (List ℕ)) (k name j : List ℕ) → ws ≡ k ∷ name ∷ j ∷ [] → None ≡ number_of k → lowest_from 3 (form_rules plan kind.Move ws) ≡ Some 4
unfolding form_rules
move_bad_1 plan ws k name j cut bad = rw (cut, ← bad) refl

pub move_bad_2 : (plan : Plan) (ws : List (List ℕ)) (k name j : List ℕ) (n : ℕ) → ws ≡ k ∷ name ∷ j ∷ [] → Some n ≡ number_of k → None ≡ number_of j → lowest_from 3 (form_rules plan kind.Move ws) ≡ Some 4
unfolding form_rules
move_bad_2 plan ws k name j n cut e1 bad = rw (cut, ← e1, ← bad) refl

pub move_bad_3 : (plan : Plan) (ws : List (List ℕ)) (k name j : List ℕ) (n : ℕ) (m : ℕ) → ws ≡ k ∷ name ∷ j ∷ [] → Some n ≡ number_of k → Some m ≡ number_of j → is_theatre plan n ≡ false → lowest_from 3 (form_rules plan kind.Move ws) ≡ Some 5
unfolding form_rules
move_bad_3 plan ws k name j n m cut e1 e2 bad = rw (cut, ← e1, ← e2, bad) refl

pub move_bad_4 : (plan : Plan) (ws : List (List ℕ)) (k name j : List ℕ) (n : ℕ) (m : ℕ) → ws ≡ k ∷ name ∷ j ∷ [] → Some n ≡ number_of k → Some m ≡ number_of j → is_theatre plan n ≡ true → is_theatre plan m ≡ false → lowest_from 3 (form_rules plan kind.Move ws) ≡ Some 5
unfolding form_rules
move_bad_4 plan ws k name j n m cut e1 e2 e3 bad = rw (cut, ← e1, ← e2, e3, bad) refl

pub move_bad_5 : (plan : Plan) (ws : List (List ℕ)) (k name j : List ℕ) (n : ℕ) (m : ℕ) → ws ≡ k ∷ name ∷ j ∷ [] → Some n ≡ number_of k → Some m ≡ number_of j → is_theatre plan n ≡ true → is_theatre plan m ≡ true → None ≡ uan_of name → lowest_from 3 (form_rules plan kind.Move ws) ≡ Some 6
unfolding form_rules
move_bad_5 plan ws k name j n m cut e1 e2 e3 e4 bad = rw (cut, ← e1, ← e2, e3, e4, ← bad) refl

pub move_good : (plan : Plan) (ws : List (List ℕ)) (k name j : List ℕ) (n : ℕ) (m : ℕ) (u : Uan) → ws ≡ k ∷ name ∷ j ∷ [] → Some n ≡ number_of k → Some m ≡ number_of j → is_theatre plan n ≡ true → is_theatre plan m ≡ true → Some u ≡ uan_of name → lowest_from 3 (form_rules plan kind.Move ws) ≡ None
unfolding form_rules
move_good plan ws k name j n m u cut e1 e2 e3 e4 e5 = rw (cut, ← e1, ← e2, e3, e4, ← e5) refl

pub move_is : (ws : List (List ℕ)) (k name j : List ℕ) (n : ℕ) (m : ℕ) (u : Uan) → ws ≡ k ∷ name ∷ j ∷ [] → Some n ≡ number_of k → Some m ≡ number_of j → Some u ≡ uan_of name → move_of ws ≡ Some (event.Move n u m)
move_is ws k name j n m u cut e1 e2 e5 = rw (cut, ← e1, ← e2, ← e5) refl

-- ---- delete

pub delete_length : (plan : Plan) (ws : List (List ℕ)) → nat_eq (length ws) 1 ≡ false → lowest_from 3 (form_rules plan kind.Delete ws) ≡ Some 3
unfolding form_rules
delete_length plan ws e = rw e refl

pub delete_bad_1 : (plan : Plan) (ws : List (List ℕ)) (name : List ℕ) → ws ≡ name ∷ [] → None ≡ uan_of name → lowest_from 3 (form_rules plan kind.Delete ws) ≡ Some 6
unfolding form_rules
delete_bad_1 plan ws name cut bad = rw (cut, ← bad) refl

pub delete_good : (plan : Plan) (ws : List (List ℕ)) (name : List ℕ) (u : Uan) → ws ≡ name ∷ [] → Some u ≡ uan_of name → lowest_from 3 (form_rules plan kind.Delete ws) ≡ None
unfolding form_rules
delete_good plan ws name u cut e1 = rw (cut, ← e1) refl

pub delete_is : (ws : List (List ℕ)) (name : List ℕ) (u : Uan) → ws ≡ name ∷ [] → Some u ≡ uan_of name → delete_of ws ≡ Some (event.Delete u)
delete_is ws name u cut e1 = rw (cut, ← e1) refl

-- ---- settle

pub settle_length : (plan : Plan) (ws : List (List ℕ)) → nat_eq (length ws) 1 ≡ false → lowest_from 3 (form_rules plan kind.Settle ws) ≡ Some 3
unfolding form_rules
settle_length plan ws e = rw e refl

pub settle_bad_1 : (plan : Plan) (ws : List (List ℕ)) (r : List ℕ) → ws ≡ r ∷ [] → None ≡ number_of r → lowest_from 3 (form_rules plan kind.Settle ws) ≡ Some 4
unfolding form_rules
settle_bad_1 plan ws r cut bad = rw (cut, ← bad) refl

pub settle_bad_2 : (plan : Plan) (ws : List (List ℕ)) (r : List ℕ) (n : ℕ) → ws ≡ r ∷ [] → Some n ≡ number_of r → nat_lt MOST_ROUNDS n ≡ true → lowest_from 3 (form_rules plan kind.Settle ws) ≡ Some 4
unfolding form_rules
settle_bad_2 plan ws r n cut e1 bad = rw (cut, ← e1, bad) refl

pub settle_good : (plan : Plan) (ws : List (List ℕ)) (r : List ℕ) (n : ℕ) → ws ≡ r ∷ [] → Some n ≡ number_of r → nat_lt MOST_ROUNDS n ≡ false → lowest_from 3 (form_rules plan kind.Settle ws) ≡ None
unfolding form_rules
settle_good plan ws r n cut e1 e2 = rw (cut, ← e1, e2) refl

pub settle_is : (ws : List (List ℕ)) (r : List ℕ) (n : ℕ) → ws ≡ r ∷ [] → Some n ≡ number_of r → settle_of ws ≡ Some (event.Settle n)
settle_is ws r n cut e1 = rw (cut, ← e1) refl

-- ---- post

abbrev pub all_rules : Program → Plan → ℕ → List (List ℕ) → List Bool
all_rules p plan last ws = form_rules plan kind.Post ws ++ post_rules p last ws

-- five words are enough
enough : (n : ℕ) → nat_lt (suc (suc (suc (suc (suc n))))) 5 ≡ false
enough n = grind (arith, nat_tests)

pub post_length : (p : Program) (plan : Plan) (last : ℕ) (ws : List (List ℕ)) → nat_lt (length ws) 5 ≡ true → lowest_from 3 (all_rules p plan last ws) ≡ Some 3
unfolding form_rules
post_length p plan last ws e = rw e refl

pub post_bad_1 : (p : Program) (plan : Plan) (last : ℕ) (ws words : List (List ℕ)) (k i to behavior handler : List ℕ) → ws ≡ k ∷ i ∷ to ∷ behavior ∷ handler ∷ words → None ≡ number_of k → lowest_from 3 (all_rules p plan last ws) ≡ Some 4
unfolding form_rules post_rules
post_bad_1 p plan last ws words k i to behavior handler cut bad = rw (cut, enough (length words), ← bad) refl

pub post_bad_2 : (p : Program) (plan : Plan) (last : ℕ) (ws words : List (List ℕ)) (k i to behavior handler : List ℕ) (n : ℕ) → ws ≡ k ∷ i ∷ to ∷ behavior ∷ handler ∷ words → Some n ≡ number_of k → None ≡ number_of i → lowest_from 3 (all_rules p plan last ws) ≡ Some 4
unfolding form_rules post_rules
post_bad_2 p plan last ws words k i to behavior handler n cut e1 bad = rw (cut, enough (length words), ← e1, ← bad) refl

pub post_bad_3 : (p : Program) (plan : Plan) (last : ℕ) (ws words : List (List ℕ)) (k i to behavior handler : List ℕ) (n : ℕ) (m : ℕ) → ws ≡ k ∷ i ∷ to ∷ behavior ∷ handler ∷ words → Some n ≡ number_of k → Some m ≡ number_of i → is_theatre plan n ≡ false → lowest_from 3 (all_rules p plan last ws) ≡ Some 5
unfolding form_rules post_rules
post_bad_3 p plan last ws words k i to behavior handler n m cut e1 e2 bad = rw (cut, enough (length words), ← e1, ← e2, bad) refl

pub post_bad_4 : (p : Program) (plan : Plan) (last : ℕ) (ws words : List (List ℕ)) (k i to behavior handler : List ℕ) (n : ℕ) (m : ℕ) → ws ≡ k ∷ i ∷ to ∷ behavior ∷ handler ∷ words → Some n ≡ number_of k → Some m ≡ number_of i → is_theatre plan n ≡ true → None ≡ uan_of to → lowest_from 3 (all_rules p plan last ws) ≡ Some 6
unfolding form_rules post_rules
post_bad_4 p plan last ws words k i to behavior handler n m cut e1 e2 e3 bad = rw (cut, enough (length words), ← e1, ← e2, e3, ← bad) refl

pub post_bad_5 : (p : Program) (plan : Plan) (last : ℕ) (ws words : List (List ℕ)) (k i to behavior handler : List ℕ) (n : ℕ) (m : ℕ) (u : Uan) → ws ≡ k ∷ i ∷ to ∷ behavior ∷ handler ∷ words → Some n ≡ number_of k → Some m ≡ number_of i → is_theatre plan n ≡ true → Some u ≡ uan_of to → nat_le m last ≡ true → lowest_from 3 (all_rules p plan last ws) ≡ Some 7
unfolding form_rules post_rules
post_bad_5 p plan last ws words k i to behavior handler n m u cut e1 e2 e3 e4 bad = rw (cut, enough (length words), ← e1, ← e2, e3, ← e4, bad) refl

pub post_bad_6 : (p : Program) (plan : Plan) (last : ℕ) (ws words : List (List ℕ)) (k i to behavior handler : List ℕ) (n : ℕ) (m : ℕ) (u : Uan) → ws ≡ k ∷ i ∷ to ∷ behavior ∷ handler ∷ words → Some n ≡ number_of k → Some m ≡ number_of i → is_theatre plan n ≡ true → Some u ≡ uan_of to → nat_le m last ≡ false → None ≡ each legal_value_of words → lowest_from 3 (all_rules p plan last ws) ≡ Some 8
unfolding form_rules post_rules
post_bad_6 p plan last ws words k i to behavior handler n m u cut e1 e2 e3 e4 e5 bad = rw (cut, enough (length words), ← e1, ← e2, e3, ← e4, e5, ← bad) refl

pub post_bad_7 : (p : Program) (plan : Plan) (last : ℕ) (ws words : List (List ℕ)) (k i to behavior handler : List ℕ) (n : ℕ) (m : ℕ) (u : Uan) (values : List Value) → ws ≡ k ∷ i ∷ to ∷ behavior ∷ handler ∷ words → Some n ≡ number_of k → Some m ≡ number_of i → is_theatre plan n ≡ true → Some u ≡ uan_of to → nat_le m last ≡ false → Some values ≡ each legal_value_of words → None ≡ call_of p behavior handler values → lowest_from 3 (all_rules p plan last ws) ≡ Some 9
unfolding form_rules post_rules
post_bad_7 p plan last ws words k i to behavior handler n m u values cut e1 e2 e3 e4 e5 e6 bad = rw (cut, enough (length words), ← e1, ← e2, e3, ← e4, e5, ← e6, ← bad) refl

pub post_good : (p : Program) (plan : Plan) (last : ℕ) (ws words : List (List ℕ)) (k i to behavior handler : List ℕ) (n : ℕ) (m : ℕ) (u : Uan) (values : List Value) (call : ℕ × ℕ) → ws ≡ k ∷ i ∷ to ∷ behavior ∷ handler ∷ words → Some n ≡ number_of k → Some m ≡ number_of i → is_theatre plan n ≡ true → Some u ≡ uan_of to → nat_le m last ≡ false → Some values ≡ each legal_value_of words → Some call ≡ call_of p behavior handler values → lowest_from 3 (all_rules p plan last ws) ≡ None
unfolding form_rules post_rules
post_good p plan last ws words k i to behavior handler n m u values call cut e1 e2 e3 e4 e5 e6 e7 = rw (cut, enough (length words), ← e1, ← e2, e3, ← e4, e5, ← e6, ← e7) refl

pub post_is : (p : Program) (plan : Plan) (last : ℕ) (ws words : List (List ℕ)) (k i to behavior handler : List ℕ) (n : ℕ) (m : ℕ) (u : Uan) (values : List Value) (call : ℕ × ℕ) → ws ≡ k ∷ i ∷ to ∷ behavior ∷ handler ∷ words → Some n ≡ number_of k → Some m ≡ number_of i → Some u ≡ uan_of to → Some values ≡ each legal_value_of words → Some call ≡ call_of p behavior handler values → call_from p ws ≡ Some (event.Post n m u call.0 call.1 values)
post_is p plan last ws words k i to behavior handler n m u values call cut e1 e2 e4 e6 e7 = rw (cut, ← e1, ← e2, ← e4, ← e6, ← e7) refl
