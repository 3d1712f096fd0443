-- Steps of theatres.
use Rattle.std.proofs.Common.{◌≡◌, ℕ, ◌+◌, Bool, true, false, cond, ◌&&◌, List, [], ◌∷◌, ◌++◌, map, filter, Option, Some, refl, sym, ap, subst, ◌∙◌, arith}
use Rattle.std.specs.Prelude.{if◌then◌else◌, slice_get}
use Rattle.std.specs.List.{list_all}
use Rattle.sal_value.specs.declared.name.Name.{Name}
use Rattle.sal_value.specs.declared.value.Value.{Value}
use Rattle.sal_value.specs.declared.value.Value.TheVariants.{Null}
use Rattle.sal_mail.specs.declared.message.Piece.TheVariants.{Known}
use Rattle.sal_mail.specs.declared.message.Message.{Message}
use Rattle.sal_mail.specs.declared.message.Join.{Join}
use Rattle.sal_mail.specs.declared.effects.Actor.{Actor}
use Rattle.sal_mail.specs.declared.effects.Creation.{Creation}
use Rattle.sal_mail.specs.declared.effects.Effects.{Effects}
use Rattle.sal_mail.specs.declared.fault.FaultKind.{FaultKind}
use Rattle.sal_mail.specs.declared.fault.FaultKind.TheVariants.{Trap as Trapped, NoHandler}
use Rattle.sal_mail.specs.Message.{is_known, is_ready}
use Rattle.sal_handler.specs.Calls.{Meaning}
use Rattle.sal_source.specs.declared.state.Step.TheVariants.{Print, Post}
use Rattle.sal_source.specs.Table.{TableKey, Table, total, HasSameItems}
use Rattle.sal_source.specs.Keys.{made_key}
use Rattle.sal_source.specs.Configuration.{Configuration}
use Rattle.sal_source.specs.Give.{DueReply}
use Rattle.sal_source.specs.Posts.{post_message}
use Rattle.sal_source.specs.Step.{message_text, answer_replies, print_step, post_step, handle_step}
use Rattle.sal_source.proofs.Same.{total-append, total-map, same_refl}
use Rattle.sal_source.proofs.Keeping.{split}
use Rattle.sal_book.specs.Book.{Book, is_open, full_replies, book_after_entry}
use Rattle.sal_resident.specs.declared.resident.Resident.{Resident}
use Rattle.sal_directory.specs.Nodes.{service_of}
use Rattle.sal_pieces.specs.Pieces.{Piece, Body, OwedReply, Put, loose_call, things}
use Rattle.sal_pieces.specs.Image.{History, waiting_after_replies, image_of, image}
use Rattle.sal_pieces.specs.Steps.{Continues, answers_of_replies, open_joins_in, open_joins_of, legal_step_replies, actor_after, creation_pieces, pieces_after, count_untidy}
use Rattle.sal_pieces.proofs.Order.{total_ext, same_before}
use Rattle.sal_pieces.proofs.Stepping.{total_zero, prints_step, fails_step, posts_step}
use Rattle.sal_pieces.proofs.Handling.{parts_total, work_total, handlers_step}
use Rattle.sal_pieces.proofs.Tidy.{are_tidy}
use Rattle.sal_routing.specs.State.{Theatre, Desk, newcomer, actor_of, desk, log, tell_given, print, with_work}
use Rattle.sal_routing.specs.Routing.{call_made, answer_made, put_resident, route}
use Rattle.sal_routing.specs.Handling.{pending_of, put_pending, create, create_all, put_newcomers, after_handler, installed, replies_of, handler_work, names_of, take_effect, fail, print_message, without_ready}
use Rattle.sal_world.specs.Pieces.{body_of}
use Rattle.sal_unseen.specs.Desks.{desk_pieces}
use Rattle.sal_unseen.specs.Unseen.{is_sendable_due, is_sendable_join, count_unsendable, ReadyMessagesFit, AreKeyed, IsInOrder}
use Rattle.sal_unseen.specs.Handlers.{place_of, asks_in, others_of, AreNewHere}
use Rattle.sal_unseen.specs.Steps.{FitsAfter, IsStepTurn, PrintTurnsAreSteps, IsCallTo, LeavesSendable, with_fresh, HandlerTurnsAreSteps, FailingTurnsAreSteps, PostTurnsAreSteps}
use Rattle.sal_unseen.proofs.Sums.{desk_total}
use Rattle.sal_unseen.proofs.Replies.{range_null, all_good, replies_good}
use Rattle.sal_unseen.proofs.Unseen.{AreGood, Leads, by_same, unseen_then, alike_waiting, in_order, routes_unseen}
use Rattle.sal_unseen.proofs.Parts.{put_keyed}
use Rattle.sal_unseen.proofs.Handlers.{removed, asked_theatre, leave_pieces}

-- ---- what was stepped to is routed

after_fits : (p : Meaning) (step : Configuration → Option Configuration) (bound : List TableKey) (before stepped : List Piece) (w v : History)
    → step (image bound before w) ≡ Some (image bound stepped v) → FitsAfter p (step (image bound before w)) → ReadyMessagesFit p (waiting_after_replies (things stepped))
unfolding image_of
after_fits p step bound before stepped w v e fit = fit (image bound stepped v) e

module _ (p : Meaning) (step : Configuration → Option Configuration) (bound : List TableKey) (before stepped : List Piece) (w v : History) (g : Desk) (rest : List Piece) where
  unrouted : step (image bound before w) ≡ Some (image bound stepped v) → FitsAfter p (step (image bound before w)) → HasSameItems stepped (desk_pieces g ++ rest) → AreGood stepped → AreKeyed g.theatre.residents
      → IsStepTurn p step bound before stepped w v g rest
  unrouted e fit same good keyed =
      let leads = by_same stepped (desk_pieces g ++ rest) same good in
      record { steps = e; unseen = leads.0; order = in_order p stepped g rest leads keyed (after_fits p step bound before stepped w v e fit) }

  routed : step (image bound before w) ≡ Some (image bound stepped v) → FitsAfter p (step (image bound before w)) → HasSameItems stepped (desk_pieces g ++ rest) → AreGood stepped → AreKeyed g.theatre.residents
      → IsStepTurn p step bound before stepped w v (route p g) rest
  routed e fit same good keyed =
      let first = unrouted e fit same good keyed in
      let second = routes_unseen p g rest first.order in
      record { steps = e; unseen = unseen_then stepped (desk_pieces g ++ rest) (desk_pieces (route p g) ++ rest) first.unseen second.unseen; order = second.order }

good_desk : (p : Meaning) (d : Desk) (rest : List Piece) → IsInOrder p d rest → AreGood (desk_pieces d ++ rest)
good_desk p d rest h = record { once = h.once; tidy = h.tidy; sendable = h.sendable }

-- ---- the ready message

ready_out : (m : Message) (i : ℕ) (t : Theatre) → slice_get t.ready i ≡ Some m → HasSameItems (desk_pieces (desk t)) (loose_call m ∷ desk_pieces (desk (without_ready i t)))
ready_out m i t at = record {
  weighs = λ f.
      let ready = removed (λ (x : Message). f (loose_call x)) t.ready i m at in
      omega (arith, ready, desk_total f (desk t), desk_total f (desk (without_ready i t)));
}

is_ready_call : (m : Message) (ps : List Piece) → total count_untidy (loose_call m ∷ ps) ≡ 0 → is_ready m ≡ true
is_ready_call m ps e = all_good (is_ready m) (omega (arith, e))

same_joins : (ps qs : List Piece) → Leads ps qs → open_joins_in ps ≡ open_joins_in qs
same_joins ps qs leads = ap (λ c. c.joins) (alike_waiting ps qs leads.0)

-- ---- prints

pub prints_are_steps : PrintTurnsAreSteps
unfolding print_message
prints_are_steps p m i t rest bound w v at to sendable h fit told =
    let before : List Piece = desk_pieces (desk t) ++ rest in
    let others : List Piece = desk_pieces (desk (without_ready i t)) ++ rest in
    let out = same_before (desk_pieces (desk t)) (loose_call m ∷ desk_pieces (desk (without_ready i t))) rest (ready_out m i t at) in
    let first = by_same before (loose_call m ∷ others) out (good_desk p (desk t) rest h) in
    let ready = is_ready_call m others first.1.tidy in
    let now = subst (λ joins. Continues w v (message_text m ∷ []) [] (answers_of_replies joins [] ((m.reply, Null) ∷ [])) w.posted) (same_joins before (loose_call m ∷ others) first) told in
    let steps = ap (print_step m.maker m.serial) (first.0.image bound w) ∙ prints_step.step m others bound w v ready to first.1.once now in
    let tidy = first.1.tidy in
    let sends = first.1.sendable in
    let owed : count_unsendable (OwedReply (m.reply, Null)) ≡ 0 = (λ j. if sendable j && range_null j then 0 else 1) in
    routed p (print_step m.maker m.serial) bound before (OwedReply (m.reply, Null) ∷ others) w v
    (with_work (answer_made (m.reply, Null) ∷ []) (tell_given ((m.reply, Null) ∷ []) (print (message_text m) (log (Print m.maker m.serial) (desk (without_ready i t))))))
    rest steps fit (same_refl (OwedReply (m.reply, Null) ∷ others))
    (record { once = prints_step.once m others first.1.once; tidy = omega (arith, tidy); sendable = omega (arith, sends, owed) }) h.keyed

-- ---- failures

module _ (p : Meaning) (m : Message) (i : ℕ) (r : Resident) (t : Theatre) (rest : List Piece) (goes : IsCallTo m i r t) (h : IsInOrder p (desk t) rest) where
  abbrev before : List Piece
  before = desk_pieces (desk t) ++ rest

  abbrev beside : List Piece
  beside = others_of i r t ++ rest

  taken : HasSameItems (desk_pieces (desk t) ++ rest) (loose_call m ∷ body_of r ∷ (others_of i r t ++ rest))
  taken = same_before (desk_pieces (desk t)) (loose_call m ∷ body_of r ∷ others_of i r t) rest (leave_pieces.before m i r t goes.ready goes.here)

  pub taken_leads : Leads (desk_pieces (desk t) ++ rest) (loose_call m ∷ body_of r ∷ (others_of i r t ++ rest))
  taken_leads = by_same (desk_pieces (desk t) ++ rest) (loose_call m ∷ body_of r ∷ (others_of i r t ++ rest)) taken (good_desk p (desk t) rest h)

  left_same : HasSameItems (body_of r ∷ (others_of i r t ++ rest)) (desk_pieces (desk (without_ready i t)) ++ rest)
  left_same = record {
    weighs = λ f.
        let a = taken.weighs f in
        let b = (ready_out m i t goes.ready).weighs f in
        omega (arith, a, b, total-append f (desk_pieces (desk t)) rest, total-append f (desk_pieces (desk (without_ready i t))) rest);
  }

  left_good : AreGood (body_of r ∷ (others_of i r t ++ rest))
  left_good =
      let good = taken_leads.1 in
      let tidy = good.tidy in
      let sends = good.sendable in
      record { once = fails_step.once m (body_of r ∷ (others_of i r t ++ rest)) good.once; tidy = omega (arith, tidy); sendable = omega (arith, sends) }

  pub is_called : is_ready m ≡ true
  is_called = is_ready_call m (body_of r ∷ (others_of i r t ++ rest)) taken_leads.1.tidy

  failed : (kind : FaultKind) (bound : List TableKey) (w v : History)
      → handle_step p.outcome m.maker m.serial [] (image bound (loose_call m ∷ body_of r ∷ (others_of i r t ++ rest)) w) ≡ Some (image bound (body_of r ∷ (others_of i r t ++ rest)) v)
      → FitsAfter p (handle_step p.outcome m.maker m.serial [] (image bound (desk_pieces (desk t) ++ rest) w))
      → IsStepTurn p (handle_step p.outcome m.maker m.serial []) bound (desk_pieces (desk t) ++ rest) (body_of r ∷ (others_of i r t ++ rest)) w v (fail kind m (desk (without_ready i t))) rest
  unfolding fail
  failed kind bound w v e fit =
      unrouted p (handle_step p.outcome m.maker m.serial []) bound (desk_pieces (desk t) ++ rest) (body_of r ∷ (others_of i r t ++ rest)) w v (fail kind m (desk (without_ready i t))) rest
      (ap (handle_step p.outcome m.maker m.serial []) (taken_leads.0.image bound w) ∙ e) fit left_same left_good h.keyed

pub failures_are_steps : FailingTurnsAreSteps
failures_are_steps = record {
  no_handler = λ p m i r t rest bound w v goes not_it h fit told.
      failed p m i r t rest goes h NoHandler bound w v
      (fails_step.no_handler p.outcome m (actor_of r, r.serial) r.book (others_of i r t ++ rest) bound w v (is_called p m i r t rest goes h) goes.target not_it (taken_leads p m i r t rest goes h).1.once told) fit;
  trap = λ p kind m i r t rest bound w v goes it out h fit told.
      failed p m i r t rest goes h (Trapped kind) bound w v
      (fails_step.trap p.outcome m (actor_of r, r.serial) r.book kind (others_of i r t ++ rest) bound w v (is_called p m i r t rest goes h) goes.target it out (taken_leads p m i r t rest goes h).1.once told) fit;
}

-- ---- handlers: residents

newcomers_keyed : (actors : List Actor) (t : Theatre) → AreKeyed t.residents → AreKeyed (put_newcomers actors t).residents
unfolding put_newcomers
newcomers_keyed [] t keyed = keyed
newcomers_keyed (a ∷ actors) t keyed = newcomers_keyed actors (put_resident (newcomer a) t) (put_keyed t.residents keyed (newcomer a))

created_residents : (maker : Name) (xs : List Creation) (d : Desk) → (create_all maker xs d).theatre.residents ≡ d.theatre.residents
unfolding create_all create
created_residents maker [] d = refl
created_residents maker (x ∷ xs) d =
    created_residents maker xs (create (pending_of maker d.theatre x) d)
    ∙ ap (λ (t : Theatre). t.residents) (asked_theatre (service_of d.theatre.plan x.name) (place_of d.theatre x) (pending_of maker d.theatre x) (put_pending (pending_of maker d.theatre x) d))

left_keyed : (e : Effects) (m : Message) (r : Resident) (d : Desk) (gs : List DueReply) → AreKeyed d.theatre.residents → AreKeyed (create_all r.name e.creations (tell_given gs (installed e m r d))).theatre.residents
unfolding installed
left_keyed e m r d gs keyed =
    subst (λ (t : Table Resident). AreKeyed t) (sym (created_residents r.name e.creations (tell_given gs (installed e m r d))))
    (newcomers_keyed e.actors (put_resident (after_handler e r) d.theatre) (put_keyed d.theatre.residents keyed (after_handler e r)))

-- ---- handlers: replies that can be sent

all_append : (xs ys : List Join) → list_all is_sendable_join xs ≡ true → list_all is_sendable_join ys ≡ true → list_all is_sendable_join (xs ++ ys) ≡ true
all_append [] ys a b = b
all_append (x ∷ xs) ys a b = let q = split (is_sendable_join x) (list_all is_sendable_join xs) a in λ i. q.0 i && all_append xs ys q.1 b i

all_filter : (js : List Join) → list_all is_sendable_join js ≡ true → list_all is_sendable_join (filter is_open js) ≡ true
all_filter [] e = refl
all_filter (j ∷ js) e =
    let q = split (is_sendable_join j) (list_all is_sendable_join js) e in
    at (is_open j) q.0 (all_filter js q.1)
  where
    at : (b : Bool) → is_sendable_join j ≡ true → list_all is_sendable_join (filter is_open js) ≡ true → list_all is_sendable_join (cond b (j ∷ filter is_open js) (filter is_open js)) ≡ true
    at true one rest = λ i. one i && rest i
    at false one rest = rest

all_due : (gs : List DueReply) → list_all is_sendable_due gs ≡ true → total (λ g. count_unsendable (OwedReply g)) gs ≡ 0
all_due [] e = refl
all_due (g ∷ gs) e =
    let q = split (is_sendable_due g) (list_all is_sendable_due gs) e in
    let one : count_unsendable (OwedReply g) ≡ 0 = ap (λ (b : Bool). if◌then◌else◌ {A = ℕ} b 0 1) q.0 in
    omega (arith, one, all_due gs q.1)

created_sendable : (asks : Creation → Bool) (me : Name) (x : Creation) → total count_unsendable (creation_pieces asks me x) ≡ 0
created_sendable asks me x = at (asks x)
  where
    at : (b : Bool) → 0 + total count_unsendable (if b then Put (made_key me x.serial) x.name ∷ [] else []) ≡ 0
    at true = omega arith
    at false = omega arith

after_sendable : (asks : Creation → Bool) (e : Effects) (m : Message) (a : Actor × ℕ) (b : Book) (rest : List Piece) → LeavesSendable e m.reply → total count_unsendable (loose_call m ∷ Body a b ∷ rest) ≡ 0
    → total count_unsendable (pieces_after asks e m a b ++ rest) ≡ 0
after_sendable asks e m a b rest sends before =
    let old = all_good (list_all is_sendable_join b.joins) (omega (arith, before)) in
    let joins = all_append b.joins (filter is_open e.joins) old (all_filter e.joins sends.joins) in
    let body : count_unsendable (Body (actor_after e a) (book_after_entry e.messages e.joins b)) ≡ 0 = ap (λ (x : Bool). if◌then◌else◌ {A = ℕ} x 0 1) joins in
    let made : total (λ x. total count_unsendable (creation_pieces asks a.0.name x)) e.creations ≡ 0 = total_ext (λ x. total count_unsendable (creation_pieces asks a.0.name x)) (λ x. 0) (created_sendable asks a.0.name) e.creations ∙ total_zero e.creations in
    omega (
      arith,
      before,
      body,
      made,
      parts_total asks e m a b rest count_unsendable,
      work_total asks e m a b rest count_unsendable,
      total_zero (filter is_ready e.messages),
      total_zero e.actors,
      replies_good e.joins sends.joins,
      total-map count_unsendable OwedReply (full_replies e.joins),
      all_due (answer_replies e.answer m.reply) sends.answer,
    )

-- ---- handlers: the step

pub also_new : (e : Effects) (next : ℕ) (r : Resident) (t : Theatre) → AreNewHere e r t → AreNewHere (with_fresh next e) r t
also_new e next r t new = record { actors = new.actors; different = new.different; creations = new.creations; once = new.once; puts = new.puts }

pub handlers_are_steps : HandlerTurnsAreSteps
unfolding take_effect handler_work
handlers_are_steps p sizes e next m i r t rest bound w v goes is_step new sends h fit told =
    let a : Actor × ℕ = (actor_of r, r.serial) in
    let others : List Piece = others_of i r t ++ rest in
    let first = taken_leads p m i r t rest goes h in
    let stepped : List Piece = pieces_after (asks_in t) e m (actor_of r, r.serial) r.book ++ (others_of i r t ++ rest) in
    let g : Desk = with_work (handler_work e m.reply) (create_all r.name e.creations (tell_given (replies_of e m.reply) (installed (with_fresh next e) m r (desk (without_ready i t))))) in
    let now = subst (λ joins. Continues w v [] [] (answers_of_replies joins (open_joins_of r.name e.joins) (legal_step_replies e m.reply)) w.posted) (same_joins (desk_pieces (desk t) ++ rest) (loose_call m ∷ body_of r ∷ (others_of i r t ++ rest)) first) told in
    let steps = ap (handle_step p.outcome m.maker m.serial (names_of e.actors)) (first.0.image bound w) ∙ handlers_step.step p.outcome sizes e m (actor_of r, r.serial) r.book (asks_in t) (others_of i r t ++ rest) bound w v is_step now in
    let left : HasSameItems
    (desk_pieces (with_work (handler_work e m.reply) (create_all r.name e.creations (tell_given (replies_of e m.reply) (installed (with_fresh next e) m r (desk (without_ready i t)))))))
    (pieces_after (asks_in t) e m (actor_of r, r.serial) r.book ++ others_of i r t) =
    leave_pieces.after (with_fresh next e) m i r t (replies_of e m.reply) goes.here (also_new e next r t new) in
    let parts : List Piece = pieces_after (asks_in t) e m (actor_of r, r.serial) r.book in
    let same : HasSameItems (pieces_after (asks_in t) e m (actor_of r, r.serial) r.book ++ (others_of i r t ++ rest))
    (desk_pieces (with_work (handler_work e m.reply) (create_all r.name e.creations (tell_given (replies_of e m.reply) (installed (with_fresh next e) m r (desk (without_ready i t)))))) ++ rest) = record {
      weighs = λ f.
          let l = left.weighs f in
          omega (
            arith,
            l,
            total-append f parts (others_of i r t ++ rest),
            total-append f (others_of i r t) rest,
            total-append f parts (others_of i r t),
            total-append f (desk_pieces (with_work (handler_work e m.reply) (create_all r.name e.creations (tell_given (replies_of e m.reply) (installed (with_fresh next e) m r (desk (without_ready i t))))))) rest,
          );
    } in
    routed p (handle_step p.outcome m.maker m.serial (names_of e.actors)) bound (desk_pieces (desk t) ++ rest) stepped w v g rest steps fit same
    (record {
      once = handlers_step.once p.outcome sizes e m (actor_of r, r.serial) r.book (asks_in t) (others_of i r t ++ rest) bound is_step;
      tidy = are_tidy.handled p.outcome sizes e m (actor_of r, r.serial) r.book (asks_in t) (others_of i r t ++ rest) bound is_step first.1.tidy;
      sendable = after_sendable (asks_in t) e m (actor_of r, r.serial) r.book (others_of i r t ++ rest) sends first.1.sendable;
    })
    (left_keyed (with_fresh next e) m r (desk (without_ready i t)) (replies_of e m.reply) h.keyed)

-- ---- posts

all_known : (args : List Value) → list_all is_known (map Known args) ≡ true
all_known [] = refl
all_known (x ∷ args) = all_known args

pub posts_are_steps : PostTurnsAreSteps
posts_are_steps p fits number to behavior handler args t rest bound w v good new h fit told =
    let m : Message = post_message number to behavior handler args in
    let before : List Piece = desk_pieces (desk t) ++ rest in
    let tidy = h.tidy in
    let sends = h.sendable in
    let ready : is_ready (post_message number to behavior handler args) ≡ true = ap (λ b. b && true) (all_known args) in
    let loose : count_untidy (loose_call (post_message number to behavior handler args)) ≡ 0 = ap (λ (b : Bool). if◌then◌else◌ {A = ℕ} b 0 1) ready in
    routed p (post_step fits number to behavior handler args) bound before (loose_call m ∷ before) w v
    (with_work (call_made (post_message number to behavior handler args) ∷ []) (log (Post number to behavior handler args) (desk t))) rest
    (posts_step.step fits number to behavior handler args (desk_pieces (desk t) ++ rest) bound w v good told) fit (same_refl (loose_call m ∷ before))
    (record {
      once = posts_step.once number to behavior handler args (desk_pieces (desk t) ++ rest) h.once new.message new.reply;
      tidy = omega (arith, tidy, loose);
      sendable = omega (arith, sends);
    })
    h.keyed
