-- Brackets are closed, and few signs wait, in expressions.
use Rattle.std.proofs.Common.{◌≡◌, ◌≤◌, ℕ, zero, suc, ◌+◌, ◌-◌, max, Bool, true, false, if◌then◌else◌, nat_lt, List, [], ◌∷◌, ◌++◌, length, map, Option, Some, None, option_and_then, codes, append_assoc, refl, sym, ap, subst, ◌∙◌, arith}
use Rattle.std.proofs.lemmas.Bool.{lt-ltb}
use Prim.Native.String.{String}
use Rattle.sal_ast.specs.declared.lexeme.Kind.TheVariants as kind
use Rattle.sal_ast.specs.declared.expression.Op.{Op}
use Rattle.sal_ast.specs.declared.expression.Op.TheVariants as op
use Rattle.sal_ast.specs.declared.expression.Expr.{Expr}
use Rattle.sal_ast.specs.declared.expression.Suffix.{Suffix}
use Rattle.sal_ast.specs.declared.expression.At.{At}
use Rattle.sal_ast.specs.declared.expression.Operand.{Operand}
use Rattle.sal_ast.specs.declared.expression.Expr.TheViews.{roll-Expr, roll-Suffix, roll-At, roll-Operand}
use Rattle.sal_ast.specs.declared.expression.Expr.TheOpen.{Expr-F, Suffix-F, At-F, Operand-F}
use Rattle.sal_ast.specs.declared.expression.Expr.TheFolds.{map-Expr, map-Suffix, map-At, map-Operand, fold-roll-Expr, fold-roll-Suffix, fold-roll-At, fold-roll-Operand, ind-Expr}
use Rattle.sal_ast.specs.declared.program.Ident.{Ident}
use Rattle.sal_ast.specs.declared.program.BaseName.{BaseName}
use Rattle.sal_ast.specs.declared.program.BaseName.TheVariants as base
use Rattle.sal_ast.specs.declared.program.TypeName.{TypeName}
use Rattle.sal_ast.specs.Brackets.{Bracket, Round, Square, Curly, TokenRole, Opens, Closes, Waits, Keeps, role_of, sign_role, state_after, push_below, pop_bracket, bracket_step, StackSymbol, Within, Before, without_signs, close_bracket, stack_step}
use Rattle.sal_ast.specs.Depth.{greatest, expr_depth, suffix_depth, at_depth, operand_depth, depth_expr, depth_suffix, depth_at, depth_operand}
use Rattle.sal_ast.specs.Spell.{TreeToken, TreeTokens, tree_token, sign, concat_tokens, each_after_sign, separated_tokens, brackets, spell_base, spell_type, spell_op, spell_reference, expr_tokens, suffix_tokens, at_tokens, operand_tokens, spell_expr, spell_suffix, spell_at, spell_operand}

-- After these tokens each reading has what it had before them. At most `d + k` more brackets are open, and at most
-- `2 d + k + 1` more brackets and signs wait.
pub record Fits (d : ℕ) (k : ℕ) (ps : TreeTokens) : Type 0 where
  pub opened : (most : ℕ) (stack : List Bracket) → length stack + (d + k) ≤ most → state_after (bracket_step most) stack ps ≡ Some stack
  pub waiting : (most : ℕ) (stack : List StackSymbol) → without_signs stack ≡ stack → length stack + (d + d + k + 1) ≤ most → state_after (stack_step most) stack ps ≡ Some stack

-- the same of an operand, which the signs before it wait for
pub record Begins (d : ℕ) (ps : TreeTokens) : Type 0 where
  pub opened : (most : ℕ) (stack : List Bracket) → length stack + d ≤ most → state_after (bracket_step most) stack ps ≡ Some stack
  pub waiting : (most : ℕ) (stack : List StackSymbol) → length stack + (d + d) ≤ most → length (without_signs stack) + (d + d + 1) ≤ most → state_after (stack_step most) stack ps ≡ Some (without_signs stack)

after_step : (S : Type 0) (step : S → TokenRole → Option S) (ps qs : TreeTokens) → ((s : S) → state_after step s (ps ++ qs) ≡ option_and_then (λ next. state_after step next qs) (state_after step s ps)) → (o : Option S) → option_and_then (λ next. state_after step next (ps ++ qs)) o ≡ option_and_then (λ next. state_after step next qs) (option_and_then (λ next. state_after step next ps) o)
after_step S step ps qs h None = refl
after_step S step ps qs h (Some s) = h s

after_append : (S : Type 0) (step : S → TokenRole → Option S) (ps qs : TreeTokens) (s : S) → state_after step s (ps ++ qs) ≡ option_and_then (λ next. state_after step next qs) (state_after step s ps)
after_append S step [] qs s = refl
after_append S step (p ∷ ps) qs s = after_step S step ps qs (after_append S step ps qs) (step s (role_of p))

-- after a token, and after several
behind_one : {S : Type 0} (step : S → TokenRole → Option S) (p : TreeToken) (ps : TreeTokens) (s t : S) (turn : TokenRole) → role_of p ≡ turn → step s turn ≡ Some t → state_after step s (p ∷ ps) ≡ state_after step t ps
behind_one step p ps s t turn e f =
    ap (λ x. option_and_then (λ next. state_after step next ps) (step s x)) e ∙ ap (option_and_then (λ next. state_after step next ps)) f

behind_all : {S : Type 0} (step : S → TokenRole → Option S) (ps qs : TreeTokens) (s t : S) → state_after step s ps ≡ Some t → state_after step s (ps ++ qs) ≡ state_after step t qs
behind_all {S = S} step ps qs s t e = after_append S step ps qs s ∙ ap (option_and_then (λ next. state_after step next qs)) e

pushes : {A : Type 0} (most : ℕ) (item : A) (stack : List A) → length stack + 1 ≤ most → push_below most item stack ≡ Some (item ∷ stack)
pushes most item stack l =
    let lt : nat_lt (length stack) most ≡ true = lt-ltb (length stack) most (omega arith) in
    ap (λ (t : Bool). if t then Some (item ∷ stack) else None) lt

bare_already : (stack : List StackSymbol) → without_signs (without_signs stack) ≡ without_signs stack
bare_already [] = refl
bare_already (Before ∷ stack) = bare_already stack
bare_already (Within b ∷ stack) = refl

pub quiet : {d k : ℕ} → Fits d k []
quiet = record { opened = λ most stack l. refl; waiting = λ most stack b l. refl }

pub none : Fits 0 0 []
none = quiet

pub keep : {d k : ℕ} {ps : TreeTokens} {p : TreeToken} → role_of p ≡ Keeps → Fits d k ps → Fits d k (p ∷ ps)
keep {ps = ps} {p = p} e f = record {
  opened = λ most stack l. behind_one (bracket_step most) p ps stack stack Keeps e refl ∙ f.opened most stack l;
  waiting = λ most stack b l. behind_one (stack_step most) p ps stack stack Keeps e (ap Some b) ∙ f.waiting most stack b l;
}

pub more : {d k e l : ℕ} {ps : TreeTokens} → Fits d k ps → d ≤ e → d + k ≤ e + l → Fits e l ps
more f x y = record {
  opened = λ most stack l. f.opened most stack (omega arith);
  waiting = λ most stack b l. f.waiting most stack b (omega arith);
}

pub two : {d k e l : ℕ} {p q : TreeTokens} → Fits d k p → Fits e l q → Fits (max d e) (max k l) (p ++ q)
two {p = p} {q = q} f g = record {
  opened = λ most stack l. behind_all (bracket_step most) p q stack stack (f.opened most stack (omega arith)) ∙ g.opened most stack (omega arith);
  waiting = λ most stack b l. behind_all (stack_step most) p q stack stack (f.waiting most stack b (omega arith)) ∙ g.waiting most stack b (omega arith);
}

popped_same : (b : Bracket) (stack : List Bracket) → pop_bracket b (b ∷ stack) ≡ Some stack
popped_same Round stack = refl
popped_same Square stack = refl
popped_same Curly stack = refl

closed_same : (b : Bracket) (stack : List StackSymbol) → close_bracket b (Within b ∷ stack) ≡ Some (without_signs stack)
closed_same Round stack = refl
closed_same Square stack = refl
closed_same Curly stack = refl

opened_at : (d k most : ℕ) (o c : TreeToken) (b : Bracket) (x : TreeTokens) (stack : List Bracket) → role_of o ≡ Opens b → role_of c ≡ Closes b → Fits d k x → length stack + (d + suc k) ≤ most → state_after (bracket_step most) stack (o ∷ (x ++ c ∷ [])) ≡ Some stack
opened_at d k most o c b x stack eo ec f l =
    let le : length (b ∷ stack) + (d + k) ≤ most = omega arith in
    behind_one (bracket_step most) o (x ++ c ∷ []) stack (b ∷ stack) (Opens b) eo (pushes most b stack (omega arith))
    ∙ behind_all (bracket_step most) x (c ∷ []) (b ∷ stack) (b ∷ stack) (f.opened most (b ∷ stack) le)
    ∙ behind_one (bracket_step most) c [] (b ∷ stack) stack (Closes b) ec (popped_same b stack)

waiting_at : (d k most : ℕ) (o c : TreeToken) (b : Bracket) (x : TreeTokens) (stack : List StackSymbol) → role_of o ≡ Opens b → role_of c ≡ Closes b → Fits d k x → length stack + (d + d + suc k + 1) ≤ most → state_after (stack_step most) stack (o ∷ (x ++ c ∷ [])) ≡ Some (without_signs stack)
waiting_at d k most o c b x stack eo ec f l =
    let le : length (Within b ∷ stack) + (d + d + k + 1) ≤ most = omega arith in
    behind_one (stack_step most) o (x ++ c ∷ []) stack (Within b ∷ stack) (Opens b) eo (pushes most (Within b) stack (omega arith))
    ∙ behind_all (stack_step most) x (c ∷ []) (Within b ∷ stack) (Within b ∷ stack) (f.waiting most (Within b ∷ stack) refl le)
    ∙ behind_one (stack_step most) c [] (Within b ∷ stack) (without_signs stack) (Closes b) ec (closed_same b stack)

enclosed : {d k : ℕ} {x : TreeTokens} (o c : TreeToken) (b : Bracket) → role_of o ≡ Opens b → role_of c ≡ Closes b → Fits d k x → Fits d (suc k) (o ∷ (x ++ c ∷ []))
enclosed {d = d} {k = k} {x = x} o c b eo ec f = record {
  opened = λ most stack l. opened_at d k most o c b x stack eo ec f l;
  waiting = λ most stack e l. waiting_at d k most o c b x stack eo ec f l ∙ ap Some e;
}

abbrev at_sign : String → Option ℕ → TreeToken
at_sign text at = record { kind = kind.Sign; text = codes text; at = at }

pub round : {d k : ℕ} {x : TreeTokens} (at : Option ℕ) → Fits d k x → Fits d (suc k) (at_sign "(" at ∷ (x ++ sign ")"))
round at f = enclosed (at_sign "(" at) (at_sign ")" None) Round refl refl f

pub square : {d k : ℕ} {x : TreeTokens} (at : Option ℕ) → Fits d k x → Fits d (suc k) (at_sign "[" at ∷ (x ++ sign "]"))
square at f = enclosed (at_sign "[" at) (at_sign "]" None) Square refl refl f

pub curly : {d k : ℕ} {x : TreeTokens} (at : Option ℕ) → Fits d k x → Fits d (suc k) (at_sign "{" at ∷ (x ++ sign "}"))
curly at f = enclosed (at_sign "{" at) (at_sign "}" None) Curly refl refl f

-- a bracketed part after others
behind : {d k : ℕ} (t x : TreeTokens) (o c : TreeToken) → Fits d k (t ++ (o ∷ (x ++ c ∷ []))) → Fits d k (((t ++ o ∷ []) ++ x) ++ c ∷ [])
behind {d = d} {k = k} t x o c f = subst (λ (ps : TreeTokens). Fits d k ps) (sym (ap (λ ps. ps ++ c ∷ []) (append_assoc t (o ∷ []) x) ∙ append_assoc t (o ∷ x) (c ∷ []))) f

pub behind_round : {d k e l : ℕ} (t x : TreeTokens) → Fits d k t → Fits e l x → Fits (max d e) (max k (suc l)) (((t ++ sign "(") ++ x) ++ sign ")")
behind_round t x f g = behind t x (at_sign "(" None) (at_sign ")" None) (two f (round None g))

pub behind_square : {d k e l : ℕ} (t x : TreeTokens) → Fits d k t → Fits e l x → Fits (max d e) (max k (suc l)) (((t ++ sign "[") ++ x) ++ sign "]")
behind_square t x f g = behind t x (at_sign "[" None) (at_sign "]" None) (two f (square None g))

pub behind_curly : {d k e l : ℕ} (t x : TreeTokens) → Fits d k t → Fits e l x → Fits (max d e) (max k (suc l)) (((t ++ sign "{") ++ x) ++ sign "}")
behind_curly t x f g = behind t x (at_sign "{" None) (at_sign "}" None) (two f (curly None g))

-- ---- operands

pub fits : {d : ℕ} {ps : TreeTokens} → Begins d ps → Fits d 0 ps
fits f = record {
  opened = λ most stack l. f.opened most stack (omega arith);
  waiting = λ most stack b l. let e : length (without_signs stack) ≡ length stack = ap length b in f.waiting most stack (omega arith) (omega arith) ∙ ap Some b;
}

-- a first token after which nothing waits
begins : {d : ℕ} {ps : TreeTokens} {p : TreeToken} → role_of p ≡ Keeps → Fits d 0 ps → Begins d (p ∷ ps)
begins {ps = ps} {p = p} e f = record {
  opened = λ most stack l. behind_one (bracket_step most) p ps stack stack Keeps e refl ∙ f.opened most stack (omega arith);
  waiting = λ most stack l m. behind_one (stack_step most) p ps stack (without_signs stack) Keeps e refl ∙ f.waiting most (without_signs stack) (bare_already stack) (omega arith);
}

-- a sign before its operand
signed : {d : ℕ} {ps : TreeTokens} {p : TreeToken} → role_of p ≡ Waits → Begins d ps → Begins (suc d) (p ∷ ps)
signed {ps = ps} {p = p} e f = record {
  opened = λ most stack l. behind_one (bracket_step most) p ps stack stack Waits e refl ∙ f.opened most stack (omega arith);
  waiting = λ most stack l m. behind_one (stack_step most) p ps stack (Before ∷ stack) Waits e (pushes most Before stack (omega arith)) ∙ f.waiting most (Before ∷ stack) (omega arith) (omega arith);
}

-- a `-` between operands, with the one after it
between : {d : ℕ} {ps : TreeTokens} {p : TreeToken} → role_of p ≡ Waits → Begins d ps → Fits d 0 (p ∷ ps)
between {ps = ps} {p = p} e f = record {
  opened = λ most stack l. behind_one (bracket_step most) p ps stack stack Waits e refl ∙ f.opened most stack (omega arith);
  waiting = λ most stack b l. let c : length (without_signs stack) ≡ length stack = ap length b in behind_one (stack_step most) p ps stack (Before ∷ stack) Waits e (pushes most Before stack (omega arith)) ∙ f.waiting most (Before ∷ stack) (omega arith) (omega arith) ∙ ap Some b;
}

parenthesized : {d : ℕ} {x : TreeTokens} (at : Option ℕ) → Fits d 0 x → Begins (suc d) (at_sign "(" at ∷ (x ++ sign ")"))
parenthesized {d = d} {x = x} at f = record {
  opened = λ most stack l. opened_at d 0 most (at_sign "(" at) (at_sign ")" None) Round x stack refl refl f (omega arith);
  waiting = λ most stack l m. waiting_at d 0 most (at_sign "(" at) (at_sign ")" None) Round x stack refl refl f (omega arith);
}

deeper : {d e : ℕ} {ps : TreeTokens} → Begins d ps → d ≤ e → Begins e ps
deeper f x = record {
  opened = λ most stack l. f.opened most stack (omega arith);
  waiting = λ most stack l m. f.waiting most stack (omega arith) (omega arith);
}

followed : {d e : ℕ} {p q : TreeTokens} → Begins d p → Fits e 0 q → Begins (max d e) (p ++ q)
followed {p = p} {q = q} f g = record {
  opened = λ most stack l. behind_all (bracket_step most) p q stack stack (f.opened most stack (omega arith)) ∙ g.opened most stack (omega arith);
  waiting = λ most stack l m. behind_all (stack_step most) p q stack (without_signs stack) (f.waiting most stack (omega arith) (omega arith)) ∙ g.waiting most (without_signs stack) (bare_already stack) (omega arith);
}

followed_round : {d e : ℕ} (t x : TreeTokens) → Begins d t → Fits e 0 x → Begins (max d (suc e)) (((t ++ sign "(") ++ x) ++ sign ")")
followed_round {d = d} {e = e} t x f g = subst (λ (ps : TreeTokens). Begins (max d (suc e)) ps) (sym (ap (λ ps. ps ++ sign ")") (append_assoc t (sign "(") x) ∙ append_assoc t (at_sign "(" None ∷ x) (sign ")"))) (followed f (more (round None g) (omega arith) (omega arith)))

-- ---- lists

-- an item with what is known of it
abbrev pub Known : (A : Type 0) → (A → Type 0) → Type 0
Known A P = (a : A) × P a

pub all_fit : (A : Type 0) (P : A → Type 0) (k : ℕ) (d : A → ℕ) (sp : A → TreeTokens) → ((a : A) → P a → Fits (d a) k (sp a)) → (xs : List (Known A P)) → Fits (greatest (map d (map (λ z. z.0) xs))) k (concat_tokens (map sp (map (λ z. z.0) xs)))
all_fit A P k d sp f [] = quiet
all_fit A P k d sp f (x ∷ xs) =
    more (two (f x.0 x.1) (all_fit A P k d sp f xs)) (omega arith) (omega arith)

pub led_fit : (text : String) → sign_role (codes text) ≡ Keeps → (A : Type 0) (P : A → Type 0) (k : ℕ) (d : A → ℕ) (sp : A → TreeTokens) → ((a : A) → P a → Fits (d a) k (sp a)) → (xs : List (Known A P)) → Fits (greatest (map d (map (λ z. z.0) xs))) k (each_after_sign text (map sp (map (λ z. z.0) xs)))
led_fit text e A P k d sp f [] = quiet
led_fit text e A P k d sp f (x ∷ xs) =
    more (keep e (two (f x.0 x.1) (led_fit text e A P k d sp f xs))) (omega arith) (omega arith)

pub joined_fit : (text : String) → sign_role (codes text) ≡ Keeps → (A : Type 0) (P : A → Type 0) (k : ℕ) (d : A → ℕ) (sp : A → TreeTokens) → ((a : A) → P a → Fits (d a) k (sp a)) → (xs : List (Known A P)) → Fits (greatest (map d (map (λ z. z.0) xs))) k (separated_tokens text (map sp (map (λ z. z.0) xs)))
joined_fit text e A P k d sp f [] = quiet
joined_fit text e A P k d sp f (x ∷ xs) =
    more (two (f x.0 x.1) (led_fit text e A P k d sp f xs)) (omega arith) (omega arith)

pub all_fits : (A : Type 0) (k : ℕ) (d : A → ℕ) (sp : A → TreeTokens) → ((a : A) → Fits (d a) k (sp a)) → (xs : List A) → Fits (greatest (map d xs)) k (concat_tokens (map sp xs))
all_fits A k d sp f [] = quiet
all_fits A k d sp f (x ∷ xs) =
    more (two (f x) (all_fits A k d sp f xs)) (omega arith) (omega arith)

pub led_fits : (A : Type 0) (k : ℕ) (d : A → ℕ) (sp : A → TreeTokens) → ((a : A) → Fits (d a) k (sp a)) → (xs : List A) → Fits (greatest (map d xs)) k (each_after_sign "," (map sp xs))
led_fits A k d sp f [] = quiet
led_fits A k d sp f (x ∷ xs) =
    more (keep refl (two (f x) (led_fits A k d sp f xs))) (omega arith) (omega arith)

pub joined_fits : (A : Type 0) (k : ℕ) (d : A → ℕ) (sp : A → TreeTokens) → ((a : A) → Fits (d a) k (sp a)) → (xs : List A) → Fits (greatest (map d xs)) k (separated_tokens "," (map sp xs))
joined_fits A k d sp f [] = quiet
joined_fits A k d sp f (x ∷ xs) =
    more (two (f x) (led_fits A k d sp f xs)) (omega arith) (omega arith)

-- ---- types

pub brackets_fit : (n : ℕ) → Fits 0 1 (brackets n)
unfolding brackets
brackets_fit zero = quiet
brackets_fit (suc n) =
    more (two (square None none) (brackets_fit n)) (omega arith) (omega arith)

pub base_fits : (b : BaseName) (at : ℕ) → Fits 0 0 (spell_base b at)
base_fits base.Int at = keep refl quiet
base_fits base.Boolean at = keep refl quiet
base_fits base.Str at = keep refl quiet
base_fits (base.Actor text) at = keep refl quiet

pub type_fits : (t : TypeName) → Fits 0 1 (spell_type t)
type_fits t =
    more (two (base_fits t.base t.at) (brackets_fit t.dims)) (omega arith) (omega arith)

-- ---- expressions

abbrev PE : Expr → Type 0
PE x = Begins (depth_expr x) (spell_expr x)

abbrev PS : Suffix → Type 0
PS x = Fits (depth_suffix x) 0 (spell_suffix x)

abbrev PA : At → Type 0
PA x = Fits (depth_at x) 1 (spell_at x)

abbrev PO : Operand → Type 0
PO x = Fits (depth_operand x) 0 (spell_operand x)

abbrev Layer : Type 0
Layer = Expr-F (Known Expr PE) (Known Suffix PS) (Known At PA) (Known Operand PO)

abbrev trees : Layer → Expr-F Expr Suffix At Operand
trees = map-Expr (Known Expr PE) (Known Suffix PS) (Known At PA) (Known Operand PO) Expr Suffix At Operand (λ z. z.0) (λ z. z.0) (λ z. z.0) (λ z. z.0)

abbrev depths : Expr-F Expr Suffix At Operand → ℕ
depths x = expr_depth (map-Expr Expr Suffix At Operand ℕ ℕ ℕ ℕ depth_expr depth_suffix depth_at depth_operand x)

abbrev pieces : Expr-F Expr Suffix At Operand → TreeTokens
pieces x = expr_tokens (map-Expr Expr Suffix At Operand TreeTokens TreeTokens TreeTokens TreeTokens spell_expr spell_suffix spell_at spell_operand x)

reference_begins : (at : ℕ) (cast : Option Ident) (behavior : Ident) → Begins 1 (spell_reference at cast behavior)
unfolding spell_reference
reference_begins at None behavior = begins refl (keep refl (keep refl quiet))
reference_begins at (Some name) behavior =
    deeper (followed (parenthesized (Some at) (keep {d = 0} {k = 0} {p = record { kind = kind.Id; text = name.text; at = Some name.at }} refl none)) (keep {d = 0} {k = 0} refl (keep refl (keep refl none)))) (omega arith)

args_fit : (xs : List (Known Expr PE)) → Fits (greatest (map depth_expr (map (λ z. z.0) xs))) 0 (separated_tokens "," (map spell_expr (map (λ z. z.0) xs)))
args_fit xs = joined_fit "," refl Expr PE 0 depth_expr spell_expr (λ a f. fits f) xs

expr_step : (y : Layer) → Begins (depths (trees y)) (pieces (trees y))
expr_step (Expr-F.Number n at) = begins refl quiet
expr_step (Expr-F.Str text at) = begins refl quiet
expr_step (Expr-F.Bool true at) = begins refl quiet
expr_step (Expr-F.Bool false at) = begins refl quiet
expr_step (Expr-F.Null at) = begins refl quiet
expr_step (Expr-F.Me at) = begins refl quiet
expr_step (Expr-F.Name name) = begins refl quiet
expr_step (Expr-F.Own at name) = begins refl (keep refl (keep refl quiet))
expr_step (Expr-F.Paren at x) = parenthesized (Some at) (fits x.1)
expr_step (Expr-F.Neg at x) = signed refl x.1
expr_step (Expr-F.Not at x) = signed refl x.1
expr_step (Expr-F.Level first rest) =
    followed first.1 (all_fit Operand PO 0 depth_operand spell_operand (λ a f. f) rest)
expr_step (Expr-F.Suffixed first rest) =
    followed first.1 (all_fit Suffix PS 0 depth_suffix spell_suffix (λ a f. f) rest)
expr_step (Expr-F.New at behavior args None) =
    begins refl (more (keep refl (two (round None (args_fit args)) none)) (omega arith) (omega arith))
expr_step (Expr-F.New at behavior args (Some p)) =
    begins refl (more (keep refl (two (round None (args_fit args)) p.1)) (omega arith) (omega arith))
expr_step (Expr-F.Make at sort size) =
    begins refl (more (two (behind_square (spell_base sort.base sort.at) (spell_expr size.0) (base_fits sort.base sort.at) (fits size.1)) (brackets_fit (sort.dims - 1))) (omega arith) (omega arith))
expr_step (Expr-F.ListOf at sort items) =
    begins refl (more (behind_curly (spell_type sort) (separated_tokens "," (map spell_expr (map (λ z. z.0) items))) (type_fits sort) (args_fit items)) (omega arith) (omega arith))
expr_step (Expr-F.ByName at cast behavior name) =
    deeper (followed_round (spell_reference at cast behavior) (spell_expr name.0) (reference_begins at cast behavior) (fits name.1)) (omega arith)

depth_rolled : (z : Expr-F Expr Suffix At Operand) → depth_expr (roll-Expr z) ≡ depths z
unfolding depth_expr depth_suffix depth_at depth_operand
depth_rolled z = fold-roll-Expr ℕ ℕ ℕ ℕ expr_depth suffix_depth at_depth operand_depth z

spell_rolled : (z : Expr-F Expr Suffix At Operand) → spell_expr (roll-Expr z) ≡ pieces z
unfolding spell_expr spell_suffix spell_at spell_operand
spell_rolled z = fold-roll-Expr TreeTokens TreeTokens TreeTokens TreeTokens expr_tokens suffix_tokens at_tokens operand_tokens z

moved : (d e : ℕ) (p q : TreeTokens) (P : ℕ → TreeTokens → Type 0) → d ≡ e → p ≡ q → P e q → P d p
moved d e p q P x y f = subst (λ (n : ℕ). P n p) (sym x) (subst (λ (ps : TreeTokens). P e ps) (sym y) f)

expr_layer : (y : Layer) → PE (roll-Expr (trees y))
expr_layer y = moved (depth_expr (roll-Expr (trees y))) (depths (trees y)) (spell_expr (roll-Expr (trees y))) (pieces (trees y)) Begins (depth_rolled (trees y)) (spell_rolled (trees y)) (expr_step y)

abbrev LayerS : Type 0
LayerS = Suffix-F (Known Expr PE) (Known Suffix PS) (Known At PA) (Known Operand PO)

abbrev suffix_trees : LayerS → Suffix-F Expr Suffix At Operand
suffix_trees = map-Suffix (Known Expr PE) (Known Suffix PS) (Known At PA) (Known Operand PO) Expr Suffix At Operand (λ z. z.0) (λ z. z.0) (λ z. z.0) (λ z. z.0)

abbrev suffix_depths : Suffix-F Expr Suffix At Operand → ℕ
suffix_depths x = suffix_depth (map-Suffix Expr Suffix At Operand ℕ ℕ ℕ ℕ depth_expr depth_suffix depth_at depth_operand x)

abbrev suffix_parts : Suffix-F Expr Suffix At Operand → TreeTokens
suffix_parts x = suffix_tokens (map-Suffix Expr Suffix At Operand TreeTokens TreeTokens TreeTokens TreeTokens spell_expr spell_suffix spell_at spell_operand x)

suffix_step : (y : LayerS) → Fits (suffix_depths (suffix_trees y)) 0 (suffix_parts (suffix_trees y))
suffix_step (Suffix-F.Index at x) =
    more (square (Some at) (fits x.1)) (omega arith) (omega arith)
suffix_step (Suffix-F.Length at) = keep refl (keep refl quiet)

suffix_depth_rolled : (z : Suffix-F Expr Suffix At Operand) → depth_suffix (roll-Suffix z) ≡ suffix_depths z
unfolding depth_expr depth_suffix depth_at depth_operand
suffix_depth_rolled z = fold-roll-Suffix ℕ ℕ ℕ ℕ expr_depth suffix_depth at_depth operand_depth z

suffix_spell_rolled : (z : Suffix-F Expr Suffix At Operand) → spell_suffix (roll-Suffix z) ≡ suffix_parts z
unfolding spell_expr spell_suffix spell_at spell_operand
suffix_spell_rolled z = fold-roll-Suffix TreeTokens TreeTokens TreeTokens TreeTokens expr_tokens suffix_tokens at_tokens operand_tokens z

suffix_layer : (y : LayerS) → PS (roll-Suffix (suffix_trees y))
suffix_layer y = moved (depth_suffix (roll-Suffix (suffix_trees y))) (suffix_depths (suffix_trees y)) (spell_suffix (roll-Suffix (suffix_trees y))) (suffix_parts (suffix_trees y)) (λ d ps. Fits d 0 ps) (suffix_depth_rolled (suffix_trees y)) (suffix_spell_rolled (suffix_trees y)) (suffix_step y)

abbrev LayerA : Type 0
LayerA = At-F (Known Expr PE) (Known Suffix PS) (Known At PA) (Known Operand PO)

abbrev at_trees : LayerA → At-F Expr Suffix At Operand
at_trees = map-At (Known Expr PE) (Known Suffix PS) (Known At PA) (Known Operand PO) Expr Suffix At Operand (λ z. z.0) (λ z. z.0) (λ z. z.0) (λ z. z.0)

abbrev at_depths : At-F Expr Suffix At Operand → ℕ
at_depths x = at_depth (map-At Expr Suffix At Operand ℕ ℕ ℕ ℕ depth_expr depth_suffix depth_at depth_operand x)

abbrev at_parts : At-F Expr Suffix At Operand → TreeTokens
at_parts x = at_tokens (map-At Expr Suffix At Operand TreeTokens TreeTokens TreeTokens TreeTokens spell_expr spell_suffix spell_at spell_operand x)

at_step : (at : ℕ) (uan : Known Expr PE) (ual : Option (Known Expr PE)) → Fits (at_depths (at_trees (record { at = at; uan = uan; ual = ual }))) 1 (at_parts (at_trees (record { at = at; uan = uan; ual = ual })))
at_step at uan None =
    more (keep refl (round None (two (fits uan.1) none))) (omega arith) (omega arith)
at_step at uan (Some ual) =
    more (keep refl (round None (two (fits uan.1) (keep {d = depth_expr ual.0} {k = 0} refl (fits ual.1))))) (omega arith) (omega arith)

at_depth_rolled : (z : At-F Expr Suffix At Operand) → depth_at (roll-At z) ≡ at_depths z
unfolding depth_expr depth_suffix depth_at depth_operand
at_depth_rolled z = fold-roll-At ℕ ℕ ℕ ℕ expr_depth suffix_depth at_depth operand_depth z

at_spell_rolled : (z : At-F Expr Suffix At Operand) → spell_at (roll-At z) ≡ at_parts z
unfolding spell_expr spell_suffix spell_at spell_operand
at_spell_rolled z = fold-roll-At TreeTokens TreeTokens TreeTokens TreeTokens expr_tokens suffix_tokens at_tokens operand_tokens z

at_layer : (y : LayerA) → PA (roll-At (at_trees y))
at_layer y = moved (depth_at (roll-At (at_trees y))) (at_depths (at_trees y)) (spell_at (roll-At (at_trees y))) (at_parts (at_trees y)) (λ d ps. Fits d 1 ps) (at_depth_rolled (at_trees y)) (at_spell_rolled (at_trees y)) (at_step y.at y.uan y.ual)

abbrev LayerO : Type 0
LayerO = Operand-F (Known Expr PE) (Known Suffix PS) (Known At PA) (Known Operand PO)

abbrev operand_trees : LayerO → Operand-F Expr Suffix At Operand
operand_trees = map-Operand (Known Expr PE) (Known Suffix PS) (Known At PA) (Known Operand PO) Expr Suffix At Operand (λ z. z.0) (λ z. z.0) (λ z. z.0) (λ z. z.0)

abbrev operand_depths : Operand-F Expr Suffix At Operand → ℕ
operand_depths x = operand_depth (map-Operand Expr Suffix At Operand ℕ ℕ ℕ ℕ depth_expr depth_suffix depth_at depth_operand x)

abbrev operand_parts : Operand-F Expr Suffix At Operand → TreeTokens
operand_parts x = operand_tokens (map-Operand Expr Suffix At Operand TreeTokens TreeTokens TreeTokens TreeTokens spell_expr spell_suffix spell_at spell_operand x)

operand_fits : (o : Op) (at d : ℕ) (ps : TreeTokens) → Begins d ps → Fits d 0 (tree_token kind.Sign (spell_op o) (Some at) ++ ps)
operand_fits op.Or at d ps f = keep refl (fits f)
operand_fits op.And at d ps f = keep refl (fits f)
operand_fits op.Same at d ps f = keep refl (fits f)
operand_fits op.Other at d ps f = keep refl (fits f)
operand_fits op.Less at d ps f = keep refl (fits f)
operand_fits op.LessEq at d ps f = keep refl (fits f)
operand_fits op.Greater at d ps f = keep refl (fits f)
operand_fits op.GreaterEq at d ps f = keep refl (fits f)
operand_fits op.Add at d ps f = keep refl (fits f)
operand_fits op.Sub at d ps f = between refl f
operand_fits op.Mul at d ps f = keep refl (fits f)
operand_fits op.Div at d ps f = keep refl (fits f)
operand_fits op.Rem at d ps f = keep refl (fits f)

operand_step : (y : LayerO) → Fits (operand_depths (operand_trees y)) 0 (operand_parts (operand_trees y))
operand_step y = operand_fits y.op y.at (depth_expr y.value.0) (spell_expr y.value.0) y.value.1

operand_depth_rolled : (z : Operand-F Expr Suffix At Operand) → depth_operand (roll-Operand z) ≡ operand_depths z
unfolding depth_expr depth_suffix depth_at depth_operand
operand_depth_rolled z = fold-roll-Operand ℕ ℕ ℕ ℕ expr_depth suffix_depth at_depth operand_depth z

operand_spell_rolled : (z : Operand-F Expr Suffix At Operand) → spell_operand (roll-Operand z) ≡ operand_parts z
unfolding spell_expr spell_suffix spell_at spell_operand
operand_spell_rolled z = fold-roll-Operand TreeTokens TreeTokens TreeTokens TreeTokens expr_tokens suffix_tokens at_tokens operand_tokens z

operand_layer : (y : LayerO) → PO (roll-Operand (operand_trees y))
operand_layer y = moved (depth_operand (roll-Operand (operand_trees y))) (operand_depths (operand_trees y)) (spell_operand (roll-Operand (operand_trees y))) (operand_parts (operand_trees y)) (λ d ps. Fits d 0 ps) (operand_depth_rolled (operand_trees y)) (operand_spell_rolled (operand_trees y)) (operand_step y)

expr_begins : (x : Expr) → Begins (depth_expr x) (spell_expr x)
expr_begins = ind-Expr PE PS PA PO (λ x y is. subst (λ z. PE (roll-Expr z)) is (expr_layer y)) (λ x y is. subst (λ z. PS (roll-Suffix z)) is (suffix_layer y)) (λ x y is. subst (λ z. PA (roll-At z)) is (at_layer y)) (λ x y is. subst (λ z. PO (roll-Operand z)) is (operand_layer y))

pub expr_fits : (x : Expr) → Fits (depth_expr x) 0 (spell_expr x)
expr_fits x = fits (expr_begins x)
