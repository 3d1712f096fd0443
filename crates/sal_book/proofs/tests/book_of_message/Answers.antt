use Rattle.std.proofs.Common.{◌≡◌, List, [], ◌∷◌, ◌++◌, sym, ap, subst, ◌∙◌}
use Rattle.std.proofs.lemmas.List.Elements.{All-nil}
use Rattle.sal_value.specs.declared.name.Name.TheVariants.{Anon}
use Rattle.sal_mail.specs.declared.message.Message.{Message}
use Rattle.sal_book.specs.Book.{Book}
use Rattle.sal_book.specs.Laws.{AreMadeBy}
use Rattle.sal_book.proofs.Makers.{makers_stay, all_cons}
use Rattle.sal_book.proofs.tests.book_of_message.Goals as goal

pub returns : goal.returns
returns c =
    let P : List Message → Type 0 = λ ms. AreMadeBy (Anon 0 0) ms in
    let none : P [] = All-nil (λ (m : Message). m.maker ≡ Anon 0 0) in
    let m : Message = c.in_ok-waiting_message.field-0 in
    let one : P (m ∷ []) = all_cons (λ (m : Message). m.maker ≡ Anon 0 0) m [] c.in_ok-waiting_message.ensures none in
    let messages : P c.push.new.self = subst P (sym (c.in_ok-push.ensures.ok ∙ ap (λ l. l ++ m ∷ []) c.new-messages.ensures)) one in
    let old : P c.new-book.result.messages = subst P (sym (ap (λ (b : Book). b.messages) c.new-book.ensures)) none in
    subst P (sym (ap (λ (b : Book). b.messages) c.in_ok-enter.ensures.ok)) (makers_stay.entry (Anon 0 0) c.push.new.self c.new.result c.new-book.result old messages)
