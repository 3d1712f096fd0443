-- Runs keep types.
use Rattle.std.proofs.Common.{◌≡◌, inl, inr, ℕ, Bool, true, false, ◌&&◌, if◌then◌else◌, List, [], ◌∷◌, map, Option, Some, None, refl, sym, ap, subst, ◌∙◌}
use Rattle.std.specs.Prelude.{slice_get}
use Rattle.sal_value.specs.declared.value.Sort.{Sort}
use Rattle.sal_value.specs.declared.value.Value.{Value}
use Rattle.sal_value.specs.declared.value.Value.TheVariants.{Array}
use Rattle.sal_value.specs.declared.name.Name.TheVariants.{Outside}
use Rattle.sal_value.specs.Spelling.{name_is_spelled}
use Rattle.sal_ast.specs.declared.program.Behavior.{Behavior}
use Rattle.sal_ast.specs.declared.program.Program.{Program}
use Rattle.sal_ast.specs.Members.{Handler, fields_of, handlers_of}
use Rattle.sal_ast.specs.Sorts.{result_sort}
use Rattle.sal_mail.specs.declared.effects.Effects.{Effects}
use Rattle.sal_handler.specs.declared.turn.Outcome.TheVariants.{Done}
use Rattle.sal_handler.specs.declared.turn.Began.{Began}
use Rattle.sal_handler.specs.declared.turn.Began.TheVariants as began
use Rattle.sal_handler.specs.Calls.{Call, Meaning}
use Rattle.sal_handler.specs.Fits.{fits_sort, fit_sorts, sorts_of, fits_handler, fits_behavior, text_sort, is_migrate, fits_call, fits_fields, fits_state, meaning_of}
use Rattle.sal_handler.specs.WellFormed.{IsOldReply, IsOrderly, program_sizes}
use Rattle.sal_handler.proofs.Addresses.{each_more}
use Rattle.sal_handler.proofs.FairCalls.{handlers_orderly}
use Rattle.sal_source.specs.declared.state.Setup.{Setup}
use Rattle.sal_source.specs.declared.state.Step.{Step}
use Rattle.sal_source.specs.declared.state.Step.TheVariants.{Handle, Print, Bind, Refuse, Post}
use Rattle.sal_source.specs.Keys.{message_key, actor_key}
use Rattle.sal_source.specs.Configuration.{Configuration, start_name, start_actor, act_message, first_by, first_configuration}
use Rattle.sal_source.specs.Run.{steps}
use Rattle.sal_source.proofs.Once.{each_none}
use Rattle.sal_source.proofs.Keeping.{KeptIn}
use Rattle.sal_source.proofs.Stepping.{one_step}
use Rattle.sal_types.specs.Signatures.{cons_some, all_some, signature_with}
use Rattle.sal_types.specs.declared.signature.Signature.{Signature}
use Rattle.sal_fitting.specs.Handlers.{HandlersKeepTypes}
use Rattle.sal_fitting.specs.Messages.{IsTypedCallTo}
use Rattle.sal_fitting.specs.Programs.{or_void, signature_of, signature_in, field_sorts, signatures, ProgramsKeepTypes}
use Rattle.sal_fitting.specs.Runs.{BeginsTyped, IsResult, HasPost, IsAnswerToPost, AllFits, RunsKeepTypes}
use Rattle.sal_fitting.specs.Signatures.{Signatures, migrate_signature, signature_at, fits_signature, fits_sorts, Agrees}
use Rattle.sal_fitting.proofs.First.{each_of_one, kept_first, led}
use Rattle.sal_fitting.proofs.Pieces.{ready_fits, all_known, args_legal, has_arguments}
use Rattle.sal_fitting.proofs.Giving.{Sorts, Owes, Waits, MessageIn, JoinIn, AnswerIn}
use Rattle.sal_fitting.proofs.Stepping.{ActorIn, CreationIn, Typed, Promise, step_typed}

module _ (p : Meaning) (sigs : Signatures) (agrees : Agrees sigs p) where
  -- ---- the first_configuration configuration

  abbrev none : Sorts
  none r = None

  start_spelled : name_is_spelled start_name ≡ true
  unfolding name_is_spelled
  start_spelled = refl

  act_typed : (words : List Value) (behavior handler : ℕ) (o : Option Signature) → signature_at sigs behavior handler ≡ o → fits_signature o (Array words ∷ []) ≡ true → IsTypedCallTo sigs (Owes none) (Waits none (Outside 0)) (act_message words behavior handler)
  act_typed words behavior handler None is fit = absurd cc
  act_typed words behavior handler (Some g) is fit = record { signature = g; is = is; args = all_known (Waits none (Outside 0)) g.params (Array words ∷ []) fit; reply = inl refl }

  first_typed : (Posts : ℕ → Sort → Type 0) (words : List Value) (b : Began) → BeginsTyped p words b → Typed sigs Posts (first_by words b)
  first_typed Posts words (began.Trap kind) h = record {
    sorts = none;
    typed = record {
      taken = λ r t e. absurd cc;
      posts = λ n t e. absurd cc;
      answers = tt;
      actors = each_none (ActorIn sigs);
      creations = each_none (CreationIn sigs);
      waiting = record { messages = each_none (MessageIn sigs none); joins = each_none (JoinIn none) };
    };
  }
  first_typed Posts words (began.Actor behavior handler fields) h = record {
    sorts = none;
    typed = record {
      taken = λ r t e. absurd cc;
      posts = λ n t e. absurd cc;
      answers = tt;
      actors = each_of_one (ActorIn sigs) actor_key (start_actor behavior fields) (record { fields = sym (agrees.states behavior fields) ∙ h.0; name = start_spelled });
      creations = each_none (CreationIn sigs);
      waiting = record {
        messages = each_of_one (MessageIn sigs none) message_key (act_message words behavior handler) (act_typed words behavior handler (signature_at sigs behavior handler) refl (sym (agrees.calls behavior handler (Array words ∷ [])) ∙ h.1));
        joins = each_none (JoinIn none);
      };
    };
  }

  -- ---- all steps

  module _ (sizes : List ℕ) (orderly : (call : Call) (e : Effects) → IsOldReply call.me call.serial call.reply → p.outcome call ≡ Done e → IsOrderly sizes call e) (keeps : HandlersKeepTypes sigs p.outcome) (setup : Setup) where
    abbrev Same : (ℕ → Sort → Type 0) → List Step → Type 0
    Same Posts ss = (n : ℕ) (t : Sort) → HasPost sigs ss n t → Posts n t

    result_of : (o : Option Signature) (g : Signature) → o ≡ Some g → IsResult o g.result
    result_of None g e = absurd cc
    result_of (Some h) g e = let same : h ≡ g = cc in ap (λ (z : Signature). z.result) same

    promise : (Posts : ℕ → Sort → Type 0) (x : Step) (ss : List Step) → Same Posts (x ∷ ss) → Promise sigs Posts x
    promise Posts (Handle m n fresh) ss f = tt
    promise Posts (Print m n) ss f = tt
    promise Posts (Bind m n) ss f = tt
    promise Posts (Refuse m n) ss f = tt
    promise Posts (Post number to behavior handler args) ss f = λ g is. f number g.result (inl (refl, result_of (signature_at sigs behavior handler) g is))

    along : (Posts : ℕ → Sort → Type 0) (ss : List Step) → Same Posts ss → (c end : Configuration) → KeptIn c → Typed sigs Posts c → steps p setup c ss ≡ Some end → Typed sigs Posts end
    unfolding steps
    along Posts [] f c end k t e = let same : c ≡ end = cc in subst (Typed sigs Posts) same t
    along Posts (x ∷ ss) f c end k t e =
        let l = led p setup x ss c end e in
        let one = one_step c k p sizes orderly setup x l.next l.is in
        along Posts ss (λ n t h. f n t (inr h)) l.next end one.keeps.kept (step_typed p sigs sizes agrees orderly keeps Posts c k t.sorts t.typed setup x (promise Posts x ss f) l.next one.keeps.goes.grows l.is) l.rest

  -- ---- what is typed fits

  all_fit : (ss : List Step) (c : Configuration) → Typed sigs (HasPost sigs ss) c → AllFits p sigs ss c
  all_fit ss c t = record {
    messages = λ key m is r. ready_fits p sigs agrees (Owes t.sorts) (Waits t.sorts m.maker) m.target m (t.typed.waiting.messages.at key m is) r;
    legal = λ key m is. args_legal sigs (Owes t.sorts) (Waits t.sorts m.maker) m.target m (t.typed.waiting.messages.at key m is);
    arguments = λ key m is. has_arguments sigs (Owes t.sorts) (Waits t.sorts m.maker) m.target m (t.typed.waiting.messages.at key m is);
    states = λ key a is. agrees.states a.0.behavior a.0.fields ∙ (t.typed.actors.at key a is).fields;
    names = λ key a is. (t.typed.actors.at key a is).name;
    creations = λ key x is. agrees.states x.1.behavior x.1.fields ∙ (t.typed.creations.at key x is).fields;
    answers = each_more (AnswerIn t.sorts) (IsAnswerToPost sigs ss) c.answers (λ x a. record { sort = a.sort; posted = t.typed.posts x.0 a.sort a.is; fits = a.fits }) t.typed.answers;
  }

pub runs_keep : RunsKeepTypes
runs_keep p sigs sizes setup agrees orderly keeps begins ss end e =
    all_fit p sigs agrees ss end (along p sigs agrees sizes orderly keeps setup (HasPost sigs ss) ss (λ n t h. h) (first_configuration p setup) end (kept_first setup.words p.begin) (first_typed p sigs agrees (HasPost sigs ss) setup.words p.begin begins) e)

-- ---- programs

all_are : (ss : List (Option Sort)) (vs : List Value) → fit_sorts ss vs ≡ fits_sorts (all_some ss) vs
all_are [] [] = refl
all_are [] (w ∷ ws) = refl
all_are (None ∷ ss) [] = refl
all_are (None ∷ ss) (w ∷ ws) = refl
all_are (Some t ∷ ss) [] = none (all_some ss)
  where
    none : (o : Option (List Sort)) → false ≡ fits_sorts (cons_some (Some t) o) []
    none None = refl
    none (Some ts) = refl
all_are (Some t ∷ ss) (w ∷ ws) = ap (λ b. fits_sort (Some t) w && b) (all_are ss ws) ∙ more (all_some ss)
  where
    more : (o : Option (List Sort)) → fits_sort (Some t) w && fits_sorts o ws ≡ fits_sorts (cons_some (Some t) o) (w ∷ ws)
    more None = no (fits_sort (Some t) w)
      where
        no : (b : Bool) → b && false ≡ false
        no true = refl
        no false = refl
    more (Some ts) = refl

module _ (q : Program) where
  with_params : (result : Sort) (o : Option (List Sort)) (args : List Value) → fits_sorts o args ≡ fits_signature (signature_with o (Some result)) args
  with_params result None args = refl
  with_params result (Some ts) args = refl

  of_handler : (o : Option Handler) (args : List Value) → fits_handler o q.behaviors args ≡ fits_signature (signature_of q.behaviors o) args
  of_handler None args = refl
  of_handler (Some h) args =
      let ss = sorts_of q.behaviors (map (λ x. x.sort) h.params) in
      all_are ss args ∙ with_params (or_void (result_sort h.result q.behaviors)) (all_some ss) args

  of_behavior : (o : Option Behavior) (handler : ℕ) (args : List Value) → fits_behavior o q.behaviors handler args ≡ fits_signature (signature_in q.behaviors o handler) args
  of_behavior None handler args = refl
  of_behavior (Some b) handler args = of_handler (slice_get (handlers_of b) handler) args

  of_fields : (o : Option Behavior) (fields : List Value) → fits_fields o q.behaviors fields ≡ fits_sorts (field_sorts q.behaviors o) fields
  of_fields None fields = refl
  of_fields (Some b) fields = all_are (sorts_of q.behaviors (map (λ x. x.sort) (fields_of b))) fields

  calls : (behavior handler : ℕ) (args : List Value) → fits_call q behavior handler args ≡ fits_signature (signature_at (signatures q) behavior handler) args
  unfolding fits_call
  calls behavior handler args = by (is_migrate behavior handler)
    where
      by : (b : Bool) → (if b then fit_sorts (text_sort ∷ []) args else fits_behavior (slice_get q.behaviors behavior) q.behaviors handler args) ≡ fits_signature (if b then Some migrate_signature else (signatures q).handler behavior handler) args
      by true = refl
      by false = of_behavior (slice_get q.behaviors behavior) handler args

  states : (behavior : ℕ) (fields : List Value) → fits_state q behavior fields ≡ fits_sorts ((signatures q).fields behavior) fields
  unfolding fits_state
  states behavior fields = of_fields (slice_get q.behaviors behavior) fields

  -- the signatures of a program say which calls and states fit it
  pub program_agrees : Agrees (signatures q) (meaning_of q)
  program_agrees = record { calls = calls; states = states }

pub programs_keep : ProgramsKeepTypes
programs_keep q setup keeps begins ss end e = runs_keep (meaning_of q) (signatures q) (program_sizes q) setup (program_agrees q) (handlers_orderly q) keeps begins ss end e
