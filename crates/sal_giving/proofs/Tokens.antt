-- A token's value and the messages that wait.
use Rattle.std.proofs.Common.{◌≡◌, ℕ, Bool, true, false, not, cond, ◌&&◌, List, [], ◌∷◌, ◌++◌, map, refl, sym, ap, ◌∙◌, inl, inr, true≢false}
use Rattle.std.specs.Prelude.{filter, All}
use Rattle.std.specs.List.{list_all}
use Rattle.std.proofs.lemmas.Bool.{and_parts}
use Rattle.std.proofs.lemmas.List.{map-append}
use Rattle.sal_value.specs.declared.name.Name.{Name}
use Rattle.sal_value.specs.declared.value.Value.{Value}
use Rattle.sal_mail.specs.declared.message.Piece.{Piece}
use Rattle.sal_mail.specs.declared.message.Piece.TheVariants.{Known, Token}
use Rattle.sal_mail.specs.declared.message.Message.{Message}
use Rattle.sal_mail.specs.Message.{is_known, is_none_left, is_ready, is_other, piece_with_reply, with_reply}
use Rattle.sal_value.proofs.Keys.{same_names}
use Rattle.sal_source.specs.Table.{Table, key_eq, table_of, table_map}
use Rattle.sal_source.specs.Keys.{name_key, message_key}
use Rattle.sal_source.specs.Give.{resolve}
use Rattle.sal_source.proofs.Tables.{words_tells, words_refl, same_table, get-table_of, table-each}
use Rattle.sal_source.proofs.Waits.{resolve_keeps}
use Rattle.sal_book.specs.Book.{rise, message_numbers, is_waiting}
use Rattle.sal_book.specs.Laws.{AreMadeBy}
use Rattle.sal_book.proofs.Makers.{all_head, all_tail}
use Rattle.sal_book.proofs.Rising.{numbers_with_reply}
use Rattle.sal_giving.proofs.Firsts.{parted, rising_distinct}

-- ---- one message

known_stay : (number : ℕ) (value : Value) (pieces : List Piece) → list_all is_known pieces ≡ true → map (piece_with_reply number value) pieces ≡ pieces
known_stay number value [] h = refl
known_stay number value (Known v ∷ pieces) h = ap (λ l. Known v ∷ l) (known_stay number value pieces h)
known_stay number value (Token n ∷ pieces) h = absurd (true≢false (sym h))

none_stay : (number : ℕ) (numbers : List ℕ) → is_none_left numbers ≡ true → filter (is_other number) numbers ≡ numbers
none_stay number [] h = refl
none_stay number (n ∷ numbers) h = absurd (true≢false (sym h))

-- a reply changes no message that is ready
ready_stays : (number : ℕ) (value : Value) (m : Message) → is_ready m ≡ true → with_reply number value m ≡ m
ready_stays number value m h =
    let parts = and_parts (list_all is_known m.args) (is_none_left m.after) h in
    let args = known_stay number value m.args parts.0 in
    let after = none_stay number m.after parts.1 in
    λ i. record m { args = args i; after = after i }

-- ---- all messages

own_resolved : (maker : Name) (number : ℕ) (value : Value) (ms : List Message) → AreMadeBy maker ms → map (resolve maker number value) ms ≡ map (with_reply number value) ms
own_resolved maker number value [] own = refl
own_resolved maker number value (m ∷ ms) own =
    let same : m.maker ≡ maker = all_head (λ (m : Message). m.maker ≡ maker) m ms own in
    let test : key_eq (name_key maker) (name_key m.maker) ≡ true = ap (λ n. key_eq (name_key maker) (name_key n)) same ∙ words_refl (name_key maker) in
    let rest = own_resolved maker number value ms (all_tail (λ (m : Message). m.maker ≡ maker) m ms own) in
    λ i. cond (test i) (with_reply number value m) m ∷ rest i

others_resolved : (maker : Name) (number : ℕ) (value : Value) (ms : List Message) → All (λ m. m.maker ≡ maker → is_ready m ≡ true) ms → map (resolve maker number value) ms ≡ ms
others_resolved maker number value [] ready = refl
others_resolved maker number value (m ∷ ms) ready =
    let first : resolve maker number value m ≡ m = elim (words_tells (name_key maker) (name_key m.maker)) [
      | inl y ↦
          ap (λ b. cond b (with_reply number value m) m) y.0
          ∙ ready_stays number value m (all_head (λ (m : Message). m.maker ≡ maker → is_ready m ≡ true) m ms ready (same_names m.maker maker (sym y.1)))
      | inr n ↦ ap (λ b. cond b (with_reply number value m) m) n.0
    ] in
    let rest = others_resolved maker number value ms (all_tail (λ (m : Message). m.maker ≡ maker → is_ready m ≡ true) m ms ready) in
    λ i. first i ∷ rest i

-- the table of all messages after the value came, from the book's after it and those that it released
pub table_resolved : (maker : Name) (number : ℕ) (value : Value) (ms others : List Message) → AreMadeBy maker ms → rise (message_numbers ms) ≡ true → All (λ m. m.maker ≡ maker → is_ready m ≡ true) others
    → table_map (resolve maker number value) (table_of message_key (ms ++ others))
    ≡ table_of message_key (filter is_waiting (map (with_reply number value) ms) ++ (filter is_ready (map (with_reply number value) ms) ++ others))
table_resolved maker number value ms others own rising ready =
    let new = map (with_reply number value) ms in
    let lists : map (resolve maker number value) (ms ++ others) ≡ new ++ others =
    map-append (resolve maker number value) ms others ∙ (λ i. own_resolved maker number value ms own i ++ others_resolved maker number value others ready i) in
    let rises : rise (message_numbers new) ≡ true = ap rise (numbers_with_reply number value ms) ∙ rising in
    sym (table-each message_key (resolve maker number value) (resolve_keeps maker number value) (ms ++ others))
    ∙ ap (table_of message_key) lists
    ∙ same_table _ _ (λ q.
    get-table_of message_key (new ++ others) q
    ∙ parted message_key q is_ready new others (rising_distinct (λ (m : Message). m.serial) (λ m. name_key m.maker) new rises)
    ∙ sym (get-table_of message_key (filter is_waiting new ++ (filter is_ready new ++ others)) q))
