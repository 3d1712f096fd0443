-- One more stage of a chain, statement of a block, or turn of a loop.
use Rattle.std.proofs.Common.{◌≡◌, ℕ, ◌+◌, ◌-◌, ◌<◌, ◌≤◌, Bool, List, [], ◌∷◌, map, length, length-drop, get_or, drop, drop-cons, add-one, suc, Option, Some, Err, if◌then◌else◌, refl, sym, ap, ◌∙◌, arith}
use Rattle.sal_ast.specs.declared.statement.Stmt.{Stmt}
use Rattle.sal_ast.specs.declared.statement.Stage.{Stage}
use Rattle.sal_mail.specs.declared.fault.Trap.TheVariants.{TooManyTurns}
use Rattle.sal_handler.specs.declared.state.State.{State}
use Rattle.sal_handler.specs.declared.state.Flow.{Flow}
use Rattle.sal_handler.specs.declared.state.Flow.TheVariants.{Next}
use Rattle.sal_handler.specs.declared.state.End.{End}
use Rattle.sal_handler.specs.Evaluation.{Eval, ◌>>=◌, ◌>>◌, pure}
use Rattle.sal_handler.specs.Scopes.{Context, begin_turn}
use Rattle.sal_handler.specs.Statements.{exec, exec_stage, sequence, chain, end_of, go_on_after, bounded_loop}
use Rattle.sal_walk.specs.code.Ends.{stage_end}

end_is : (list : List Stage) (left : ℕ) (last : End) → left ≡ length list → end_of (map exec_stage list) last ≡ stage_end left last
end_is [] left last e = rw e refl
end_is (x ∷ list) left last e = rw e refl

-- the next stage of a chain
pub chain_step : (list : List Stage) (i left : ℕ) (o : Stage) (r : Context) (before : Option ℕ) (last : End) (s : State) → i < length list → o ≡ get_or list i o → left + (i + 1) ≡ length list → chain (map exec_stage (drop i list)) r before last s ≡ (exec_stage o r before (stage_end left last) >>= (λ n. chain (map exec_stage (drop (i + 1) list)) r (Some n) last)) s
chain_step list i left o r before last s h e k =
    ap (λ l. chain (map exec_stage l) r before last s) (drop-cons list i o h ∙ ap (λ x. x ∷ drop (suc i) list) (sym e))
    ∙ ap (λ n. chain (exec_stage o ∷ map exec_stage (drop n list)) r before last s) (sym (add-one i))
    ∙ ap (λ w. (exec_stage o r before w >>= (λ n. chain (map exec_stage (drop (i + 1) list)) r (Some n) last)) s) (end_is (drop (i + 1) list) left last (omega (arith, length-drop (i + 1) list)))

-- the next statement of a block
pub sequence_step : (list : List Stmt) (i : ℕ) (o : Stmt) (r : Context) (s : State) → i < length list → o ≡ get_or list i o → sequence (map exec (drop i list)) r s ≡ (exec o r >>= (λ f. go_on_after f (sequence (map exec (drop (i + 1) list)) r))) s
sequence_step list i o r s h e =
    ap (λ l. sequence (map exec l) r s) (drop-cons list i o h ∙ ap (λ x. x ∷ drop (suc i) list) (sym e))
    ∙ ap (λ n. sequence (exec o ∷ map exec (drop n list)) r s) (sym (add-one i))

-- one more turn of a loop
pub turn_step : (n i : ℕ) (test : Eval Bool) (body : Eval Flow) (s : State) → i < n → bounded_loop (n - i) test body s ≡ (test >>= (λ t. if t then (begin_turn >> (body >>= (λ f. go_on_after f (bounded_loop (n - (i + 1)) test body)))) else pure Next)) s
unfolding bounded_loop
turn_step n i test body s h = let e : n - i ≡ suc (n - (i + 1)) = omega arith in ap (λ k. bounded_loop k test body s) e

pub no_turn : (n i : ℕ) (test : Eval Bool) (body : Eval Flow) (s : State) → n ≤ i → bounded_loop (n - i) test body s ≡ Err TooManyTurns
unfolding bounded_loop
no_turn n i test body s h = let e : n - i ≡ 0 = omega arith in ap (λ k. bounded_loop k test body s) e
