-- The checker's judgement of expressions, wherever one stands in a program, and that what is so judged keeps types. Fields of
-- new actors are of a behaviour that the program has.
use Rattle.std.proofs.Common.{◌≡◌, ℕ, List, [], ◌∷◌, Option, Some, None, ap, subst}
use Rattle.std.specs.Prelude.{slice_get}
use Rattle.sal_value.specs.declared.value.Sort.{Sort as MeantSort}
use Rattle.sal_value.specs.declared.value.Value.{Value}
use Rattle.sal_ast.specs.declared.program.Behavior.{Behavior}
use Rattle.sal_ast.specs.declared.expression.Expr.{Expr}
use Rattle.sal_ast.specs.declared.expression.Suffix.{Suffix}
use Rattle.sal_ast.specs.declared.expression.At.{At}
use Rattle.sal_ast.specs.declared.expression.Operand.{Operand}
use Rattle.sal_ast.specs.declared.expression.Expr.TheOpen.{Expr-F, Suffix-F}
use Rattle.sal_ast.specs.Sorts.{Scope, name_sort, field_sort}
use Rattle.sal_mail.specs.declared.effects.Actor.{Actor}
use Rattle.sal_mail.specs.declared.effects.Creation.{Creation}
use Rattle.sal_sorts.specs.Environments.{Environment}
use Rattle.sal_typing.specs.Known.{IsThere, IsKnown}
use Rattle.sal_handler.specs.declared.state.State.{State}
use Rattle.sal_handler.specs.Expressions.{eval}
use Rattle.sal_handler.specs.Scopes as c
use Rattle.sal_handler.specs.Scopes.{Context, scope_of}
use Rattle.sal_handler.proofs.Addresses.{each_more}
use Rattle.sal_preservation.specs.States.{IsOf as Has, FieldsOf, params_of}
use Rattle.sal_preservation.proofs.Judged as j
use Rattle.sal_preservation.proofs.Judged.{Kind, Assignable}
use Rattle.sal_preservation.proofs.Judging as judging
use Rattle.sal_preservation.proofs.Lookups as look
use Rattle.sal_preservation.proofs.Expressions as x
use Rattle.sal_preservation.proofs.Expressions.{Belongs, Sits, Went, Keeps}

-- ---- what holds of the parts by one judgement holds by a wider one

module _ (J L : Expr → Scope → Kind → Type 0) (JS LS : Suffix → Scope → Kind → Kind → Type 0) (makes others : ℕ → List MeantSort)
    (more : (e : Expr) (sc : Scope) (k : Kind) → J e sc k → L e sc k) (more_suffix : (q : Suffix) (sc : Scope) (a k : Kind) → JS q sc a k → LS q sc a k) (same : (n : ℕ) → makes n ≡ others n) where
  has_more : (e : Expr) (sc : Scope) → j.HasKind J JS makes e sc → j.HasKind L LS others e sc
  has_more e sc h = (h.0, more e sc h.0 h.1)

  item_more : (e : Expr) (sc : Scope) (t : MeantSort) → j.ItemOf J JS makes e sc t → j.ItemOf L LS others e sc t
  item_more e sc t h = (h.0, (more e sc h.0 h.1.0, h.1.1))

  items_more : (es : List Expr) (sc : Scope) (t : MeantSort) → j.ItemsOf J JS makes es sc t → j.ItemsOf L LS others es sc t
  items_more [] sc t h = tt
  items_more (e ∷ es) sc t h = (item_more e sc t h.0, items_more es sc t h.1)

  args_more : (es : List Expr) (sc : Scope) (ts : List MeantSort) → j.ArgsOf J JS makes es sc ts → j.ArgsOf L LS others es sc ts
  args_more [] sc [] h = tt
  args_more [] sc (t ∷ ts) h = absurd h
  args_more (e ∷ es) sc [] h = absurd h
  args_more (e ∷ es) sc (t ∷ ts) h = (item_more e sc t h.0, args_more es sc ts h.1)

  level_more : (ps : List Operand) (sc : Scope) (a k : Kind) → j.LevelOf J JS makes ps sc a k → j.LevelOf L LS others ps sc a k
  level_more [] sc a k h = h
  level_more (p ∷ ps) sc a k h = (h.0, (h.1.0, (more p.value sc h.0 h.1.1.0, (h.1.1.1.0, level_more ps sc (Some h.1.0) k h.1.1.1.1))))

  suffixes_more : (qs : List Suffix) (sc : Scope) (a k : Kind) → j.SuffixesOf J JS makes qs sc a k → j.SuffixesOf L LS others qs sc a k
  suffixes_more [] sc a k h = h
  suffixes_more (q ∷ qs) sc a k h = (h.0, (more_suffix q sc a h.0 h.1.0, suffixes_more qs sc h.0 k h.1.1))

  maybe_more : (o : Option Expr) (sc : Scope) → j.MaybeOf J JS makes o sc → j.MaybeOf L LS others o sc
  maybe_more None sc h = tt
  maybe_more (Some e) sc h = has_more e sc h

  place_more : (o : Option At) (sc : Scope) → j.PlaceOf J JS makes o sc → j.PlaceOf L LS others o sc
  place_more None sc h = tt
  place_more (Some p) sc h = (has_more p.uan sc h.0, maybe_more p.ual sc h.1)

  pub inverts_more : (z : Expr-F Expr Suffix At Operand) (sc : Scope) (k : Kind) → j.Inverts J JS makes z sc k → j.Inverts L LS others z sc k
  inverts_more (Expr-F.Number n at) sc k h = h
  inverts_more (Expr-F.Str t at) sc k h = h
  inverts_more (Expr-F.Bool b at) sc k h = h
  inverts_more (Expr-F.Null at) sc k h = h
  inverts_more (Expr-F.Me at) sc k h = h
  inverts_more (Expr-F.Name name) sc k h = h
  inverts_more (Expr-F.Own at name) sc k h = h
  inverts_more (Expr-F.Paren at e) sc k h = more e sc k h
  inverts_more (Expr-F.Neg at e) sc k h = (has_more e sc h.0, h.1)
  inverts_more (Expr-F.Not at e) sc k h = (has_more e sc h.0, h.1)
  inverts_more (Expr-F.Level first rest) sc k h = (h.0, (more first sc h.0 h.1.0, level_more rest sc h.0 k h.1.1))
  inverts_more (Expr-F.Suffixed first rest) sc k h = (h.0, (more first sc h.0 h.1.0, suffixes_more rest sc h.0 k h.1.1))
  inverts_more (Expr-F.New at b args place) sc k h = (h.0, (h.1.0, (subst (λ ts. j.ArgsOf L LS others args sc ts) (same h.0) (args_more args sc (makes h.0) h.1.1.0), (place_more place sc h.1.1.1.0, h.1.1.1.1))))
  inverts_more (Expr-F.Make at sort size) sc k h = (h.0, (h.1.0, (has_more size sc h.1.1.0, h.1.1.1)))
  inverts_more (Expr-F.ListOf at sort items) sc k h = (h.0, (h.1.0, (items_more items sc (record { base = h.0; dims = h.1.0 }) h.1.1.0, h.1.1.1)))
  inverts_more (Expr-F.ByName at cast b name) sc k h = (h.0, (has_more name sc h.1.0, h.1.1))

  pub suffix_inverts_more : (z : Suffix-F Expr Suffix At Operand) (sc : Scope) (a k : Kind) → j.InvertsSuffix J JS makes z sc a k → j.InvertsSuffix L LS others z sc a k
  suffix_inverts_more (Suffix-F.Index at e) sc a k h = (h.0, (h.1.0, (h.1.1.0, (h.1.1.1.0, has_more e sc h.1.1.1.1))))
  suffix_inverts_more (Suffix-F.Length at) sc a k h = h

-- ---- the judgement wherever an expression stands

-- the fields of an actor of a behaviour that there is
abbrev pub HasFields : List Behavior → ℕ → List Value → Type 0
HasFields bs n vs = IsThere (slice_get bs n) × FieldsOf bs n vs

module _ (bs : List Behavior) where
  -- an expression has this kind in this scope
  pub record Judgement (e : Expr) (sc : Scope) (k : Kind) : Type 0 where
    pub env : Environment
    pub mine : ℕ
    pub known : IsKnown env mine
    pub same : env.behaviors ≡ bs
    pub judged : judging.Judgement env mine known e sc k

  pub record SuffixJudgement (q : Suffix) (sc : Scope) (a k : Kind) : Type 0 where
    pub env : Environment
    pub mine : ℕ
    pub known : IsKnown env mine
    pub same : env.behaviors ≡ bs
    pub judged : judging.SuffixJudgement env mine known q sc a k

  abbrev pub makes : ℕ → List MeantSort
  makes n = params_of bs n

  module _ (env : Environment) (mine : ℕ) (known : IsKnown env mine) (same : env.behaviors ≡ bs) where
    judge : (e : Expr) (sc : Scope) (k : Kind) → judging.Judgement env mine known e sc k → Judgement e sc k
    judge e sc k h = record { env = env; mine = mine; known = known; same = same; judged = h }

    judge_suffix : (q : Suffix) (sc : Scope) (a k : Kind) → judging.SuffixJudgement env mine known q sc a k → SuffixJudgement q sc a k
    judge_suffix q sc a k h = record { env = env; mine = mine; known = known; same = same; judged = h }

    makes_same : (n : ℕ) → judging.makes env mine known n ≡ makes n
    makes_same n = ap (λ b. params_of b n) same

    exprs_there : (z : Expr-F Expr Suffix At Operand) (sc : Scope) (k : Kind) → j.Inverts (judging.Judgement env mine known) (judging.SuffixJudgement env mine known) (judging.makes env mine known) z sc k → j.Inverts Judgement SuffixJudgement makes z sc k
    exprs_there = inverts_more (judging.Judgement env mine known) Judgement (judging.SuffixJudgement env mine known) SuffixJudgement (judging.makes env mine known) makes judge judge_suffix makes_same

    suffixes_there : (z : Suffix-F Expr Suffix At Operand) (sc : Scope) (a k : Kind) → j.InvertsSuffix (judging.Judgement env mine known) (judging.SuffixJudgement env mine known) (judging.makes env mine known) z sc a k → j.InvertsSuffix Judgement SuffixJudgement makes z sc a k
    suffixes_there = suffix_inverts_more (judging.Judgement env mine known) Judgement (judging.SuffixJudgement env mine known) SuffixJudgement (judging.makes env mine known) makes judge judge_suffix makes_same

  pub judges : j.Judges Judgement SuffixJudgement makes
  judges = record {
    exprs = λ z sc k h. exprs_there h.env h.mine h.known h.same z sc k ((judging.judges h.env h.mine h.known).exprs z sc k h.judged);
    suffixes = λ z sc a k h. suffixes_there h.env h.mine h.known h.same z sc a k ((judging.judges h.env h.mine h.known).suffixes z sc a k h.judged);
  }

  -- ---- states

  weaker : (r : Context) (s : State) → Sits (HasFields bs) r s → Sits (FieldsOf bs) r s
  weaker r s h = record {
    locals = h.locals;
    fields = h.fields.1;
    actors = each_more (λ (a : Actor). HasFields bs a.behavior a.fields) (λ (a : Actor). FieldsOf bs a.behavior a.fields) s.actors (λ a o. o.1) h.actors;
    creations = each_more (λ (y : Creation). HasFields bs y.behavior y.fields) (λ (y : Creation). FieldsOf bs y.behavior y.fields) s.creations (λ y o. o.1) h.creations;
  }

  pub name_is : (r : Context) → look.IsOf bs r → (s : State) → Sits (HasFields bs) r s → (n : List ℕ) (t : MeantSort) → name_sort n (scope_of r s) ≡ Some t → Belongs t (c.read_variable n r s)
  name_is r same s h n t e = look.name_is bs r same s (weaker r s h) n t e

  pub own_is : (r : Context) → look.IsOf bs r → (s : State) → Sits (HasFields bs) r s → (n : List ℕ) (t : MeantSort) → field_sort n (scope_of r s) ≡ Some t → Belongs t (c.read_field n r s)
  own_is r same s h n t e = look.own_is bs r same s (weaker r s h) n t e

  -- what makes fields, makes them of their types, and the program is that with these behaviours
  abbrev pub Can : Context → Type 0
  Can = x.Able (HasFields bs) Judgement SuffixJudgement makes judges (look.IsOf bs) name_is own_is

  pub eval_keeps : (e : Expr) (env : Scope) (k : Kind) → Judgement e env k → (r : Context) → Can r → (s : State) → env ≡ scope_of r s → Sits (HasFields bs) r s → Keeps (HasFields bs) r (Has k) s (eval e r s)
  eval_keeps e env k h r can s same sits = (x.expressions_keep (HasFields bs) Judgement SuffixJudgement makes judges (look.IsOf bs) name_is own_is e env k h).keeps r can s same sits

  pub assigned : (k : Kind) (t : MeantSort) → Assignable k t → (y : Value) → Has k y → Belongs t y
  assigned k t f y h = x.assigned (HasFields bs) Judgement SuffixJudgement makes judges (look.IsOf bs) name_is own_is k t f y h

  pub scope_stays : (r : Context) (s t : State) (env : Scope) → env ≡ scope_of r s → Went (HasFields bs) r s t → env ≡ scope_of r t
  scope_stays r s t env e g = x.scope_stays (HasFields bs) Judgement SuffixJudgement makes judges (look.IsOf bs) name_is own_is r s t env e g
