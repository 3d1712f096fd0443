-- The rest of a chain, turn by turn.
use Rattle.std.proofs.Common.{◌≡◌, ℕ, zero, suc, ◌+◌, ◌-◌, ◌<◌, ◌≤◌, Bool, true, false, if◌then◌else◌, List, [], ◌∷◌, ◌++◌, length, Option, Some, None, refl, sym, ap, ◌∙◌, append_assoc, append-nil, arith}
use Rattle.std.specs.Prelude.{Ok, Err}
use Rattle.sal_ast.specs.declared.statement.Chain.{roll-Chain}
use Rattle.sal_ast.specs.declared.statement.Stage.{Stage}
use Rattle.sal_ast.specs.declared.statement.Stmt.{Stmt}
use Rattle.sal_ast.specs.declared.statement.Stmt.TheVariants as form
use Rattle.sal_grammar.specs.declared.reason.Reason.{Reason}
use Rattle.sal_grammar.specs.declared.reason.Reason.TheVariants.{Form}
use Rattle.sal_grammar.specs.Parsers.{Outcome, Parser, and_then, ◌>>=◌, pure, token_at, where_sees}
use Rattle.sal_grammar.specs.Sets as is
use Rattle.sal_grammar.specs.Statements.{Tail, tail_from, chain_stmt, stage_by}
use Rattle.sal_grammar.specs.Tokens.{Token, Set, next}
use Rattle.sal_parse.specs.declared.turn.Turn.{Turn}
use Rattle.sal_parse.specs.declared.turn.Turn.TheVariants as turn
use Rattle.sal_parse.specs.code.Nests.{inner}
use Rattle.sal_parse.specs.code.Parts.{tail_turn, finished}
use Rattle.sal_reader.specs.declared.stop.Stop.{Stop}
use Rattle.sal_reader.specs.declared.stop.Stop.TheVariants.{Memory, Refused}
use Rattle.sal_reader.specs.Reads.{Reads}

-- what comes after a turn
abbrev go_on : ℕ → Parser Stage → Turn → Parser Tail
go_on n stage (turn.Next s) = tail_from n stage >>= (λ others. pure (record { stages = s ∷ others.stages; passed = others.passed }))
go_on n stage (turn.End p) = pure (record { stages = []; passed = p })

then_same : {A B : Type 0} (o : Outcome A) (f g : A → Parser B) → ((a : A) (i : List Token) → f a i ≡ g a i) → and_then o f ≡ and_then o g
then_same (Ok p) f g h = h p.0 p.1
then_same (Err e) f g h = refl

then_then : {A B C : Type 0} (o : Outcome A) (f : A → Parser B) (g : B → Parser C) → and_then (and_then o f) g ≡ and_then o (λ a i. and_then (f a i) g)
then_then (Ok p) f g = refl
then_then (Err e) f g = refl

if_then : {A B : Type 0} (b : Bool) (x y : Outcome A) (x' y' : Outcome B) (g : A → Parser B) → x' ≡ and_then x g → y' ≡ and_then y g
    → (if b then x' else y') ≡ and_then (if b then x else y) g
if_then true x y x' y' g e f = e
if_then false x y x' y' g e f = f

turn_is : (n : ℕ) (stage : Parser Stage) (i : List Token) → tail_from (suc n) stage i ≡ and_then (tail_turn stage i) (go_on n stage)
unfolding tail_from tail_turn
turn_is n stage i =
    if_then (is.then_sign (next i)) _ _ _ _ (go_on n stage)
    (then_same (token_at is.then_sign i) _ _
    (λ t r. if_then (is.current (next r)) _ _ _ _ (go_on n stage)
    (then_same (token_at is.current r) _ _ (λ u k. sym (then_then (token_at is.semicolon k) _ (go_on n stage))) ∙ sym (then_then (token_at is.current r) _ (go_on n stage)))
    (sym (then_then (stage r) _ (go_on n stage))))
    ∙ sym (then_then (token_at is.then_sign i) _ (go_on n stage)))
    (sym (then_then (token_at is.semicolon i) _ (go_on n stage)))

left_turns : (n at : ℕ) → at < n → n - at ≡ suc (n - (at + 1))
left_turns n at h = omega arith

-- one turn more, from what is known of it
turned : (t : Outcome Stmt) (n at : ℕ) (stage : Parser Stage) (found : List Stage) (i : List Token) (o : Outcome Turn) → at < n
    → t ≡ finished found (tail_from (n - at) stage i) → tail_turn stage i ≡ o → t ≡ finished found (and_then o (go_on (n - (at + 1)) stage))
turned t n at stage found i o h e x =
    e ∙ ap (λ k. finished found (tail_from k stage i)) (left_turns n at h)
    ∙ ap (finished found) (turn_is (n - (at + 1)) stage i ∙ ap (λ z. and_then z (go_on (n - (at + 1)) stage)) x)

finished_more : (found : List Stage) (s : Stage) (o : Outcome Tail)
    → finished found (and_then o (λ others. pure (record { stages = s ∷ others.stages; passed = others.passed }))) ≡ finished (found ++ s ∷ []) o
finished_more found s (Ok p) = ap (λ z. Ok (form.Chain (roll-Chain (record { stages = z })) p.0.passed, p.1)) (sym (append_assoc found (s ∷ []) p.0.stages))
finished_more found s (Err e) = refl

pub tail_next : (t : Outcome Stmt) (n at : ℕ) (stage : Parser Stage) (found : List Stage) (i r : List Token) (s : Stage) → at < n
    → t ≡ finished found (tail_from (n - at) stage i) → tail_turn stage i ≡ Ok (turn.Next s, r)
    → t ≡ finished (found ++ s ∷ []) (tail_from (n - (at + 1)) stage r)
tail_next t n at stage found i r s h e x =
    turned t n at stage found i (Ok (turn.Next s, r)) h e x ∙ finished_more found s (tail_from (n - (at + 1)) stage r)

pub tail_end : (t : Outcome Stmt) (n at : ℕ) (stage : Parser Stage) (found : List Stage) (i r : List Token) (p : Option ℕ) → at < n
    → t ≡ finished found (tail_from (n - at) stage i) → tail_turn stage i ≡ Ok (turn.End p, r)
    → t ≡ Ok (form.Chain (roll-Chain (record { stages = found })) p, r)
tail_end t n at stage found i r p h e x =
    turned t n at stage found i (Ok (turn.End p, r)) h e x ∙ ap (λ z. Ok (form.Chain (roll-Chain (record { stages = z })) p, r)) (append-nil found)

pub tail_stop : (t : Outcome Stmt) (n at : ℕ) (stage : Parser Stage) (found : List Stage) (i r : List Token) (stop : Stop) → at < n
    → t ≡ finished found (tail_from (n - at) stage i) → Reads (tail_turn stage i) (Err stop) r → Reads t (Err stop) r
tail_stop t n at stage found i r Memory h e x = tt
tail_stop t n at stage found i r (Refused why) h e x = turned t n at stage found i (Err (why, r)) h e x

pub tail_none : (t : Outcome Stmt) (n at : ℕ) (stage : Parser Stage) (found : List Stage) (i : List Token) → n ≤ at
    → t ≡ finished found (tail_from (n - at) stage i) → t ≡ Err (Form, i)
unfolding tail_from
tail_none t n at stage found i h e =
    let none : n - at ≡ 0 = omega arith in
    e ∙ ap (λ k. finished found (tail_from k stage i)) none

pub tail_start : (d n : ℕ) (first : Stage) (i : List Token) → n ≡ length i + 1
    → chain_stmt d (inner d) first i ≡ finished (first ∷ []) (tail_from n (stage_by d (inner d)) i)
unfolding chain_stmt
tail_start d n first i e =
    let f : suc (length i) ≡ n = omega arith in
    ap (λ k. finished (first ∷ []) (tail_from k (stage_by d (inner d)) i)) f
