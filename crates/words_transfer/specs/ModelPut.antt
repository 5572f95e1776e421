-- A model by value, put into words: they spell a model, and it is that one, but for the places in no use. The idea: the
-- parts are put one after the other, and a record's words lie after those of the records before it, so that what is put
-- is still read back at the end. Assumes nothing.
use Rattle.std.specs.Prelude.{ℕ, ◌+◌, ◌*◌, ◌%◌, ◌≤◌, ◌<◌, ◌≡◌, refl, true, List, map, length, get_or, take}
use Rattle.std.proofs.Common.{arith, sym, ◌∙◌, inl, inr, get_or-take}
use Rattle.std.proofs.Common.{length-take-le, take_all, ext_get_or}
use Rattle.std.proofs.Math.Path.{ap}
use Rattle.std.proofs.lemmas.List.{length-map}
use Rattle.std.proofs.Math.ListN.{get_or-map}
use Rattle.machine.specs.declared.part.Part.{Part}
use Rattle.machine.specs.declared.model.Model.{Model}
use Rattle.machine.specs.Model.{most_parts, blank_part, part_at, trimmed_part, trimmed}
use Rattle.words_codec.specs.Words.{tabulate}
use Rattle.words_codec.specs.Tables.{length_table, table_at, below_more}
use Rattle.words_store.specs.ModelIn.{slot, part_count, table_words, state_words, stored_ratio, ordered_part}
use Rattle.words_store.specs.ModelIn.{stored_part, stored_point, model_in}
use Rattle.words_store.specs.Form.{component_spelled, spelled}
use Rattle.words_store.specs.Clean.{CleanHeld, CleanOutput, CleanSpans, CleanWords, clean_kept}
use Rattle.words_store.specs.Updated.{state_spelled, StatePut, component_same}
use Rattle.words_store.specs.StoreFrame.{state_kept, spelled_kept, point_kept}
use Rattle.words_store.specs.Spelling.{spelled_parts}
use Rattle.words_store.specs.Respelled.{parts_all}
use Rattle.words_store.specs.CleanKept.{kept_put}
use Rattle.words_transfer.specs.ComponentPut.{ComponentPut, same_component}

-- the words ts and ss hold the model m, but for its places in no use, and their free words are clean, but for those
-- after the model
pub record ModelPut (m : Model) (ts ss : List ℕ) : Type 0 where
  pub is : trimmed (model_in ts ss) ≡ trimmed m
  pub form : spelled ts ss ≡ true
  pub clean : CleanWords m.count ts ss

-- the words from n on are kept
abbrev pub KeptFrom : ℕ → List ℕ → List ℕ → Type 0
KeptFrom n a b = (x : ℕ) → n ≤ x → slot b x ≡ slot a x

-- the words after a model of n parts are kept, of a table, a and b, and of a state, s and t
pub record KeptBehind (n : ℕ) (a b s t : List ℕ) : Type 0 where
  pub table : KeptFrom (table_words n) a b
  pub state : KeptFrom (state_words n) s t

-- the words b are the words a with the magnitude, which fits its field, and the count written anew
pub record HeaderPut (magnitude count : ℕ) (a b : List ℕ) : Type 0 where
  pub size : length b ≡ length a
  pub magnitude_is : slot b 0 ≡ magnitude
  pub octet : magnitude ≤ 255
  pub count_is : slot b 1 ≡ count
  pub others : KeptFrom 2 a b

-- part j of m is in the words, but for its places in no use, and so is the number at place j of its order, all in words
-- within their limits, those free clean
pub record PutAt (m : Model) (j : ℕ) (ts ss : List ℕ) : Type 0 where
  pub part_is : trimmed_part (stored_part ts ss j) ≡ trimmed_part (part_at m.parts j)
  pub number_is : ordered_part ts j ≡ get_or m.order j 0
  pub table_form : component_spelled ts j ≡ true
  pub state_form : state_spelled ss j ≡ true
  pub spans_clean : CleanSpans ts j
  pub held_clean : CleanHeld ss j
  pub output_clean : CleanOutput ss j

-- the magnitude, the count, the point and the first i parts of m are in the words, which are as many as a and s, and
-- the same after the model's
pub record PutFirst (m : Model) (i : ℕ) (a s ts ss : List ℕ) : Type 0 where
  pub table_size : length ts ≡ length a
  pub state_size : length ss ≡ length s
  pub magnitude_is : slot ts 0 ≡ m.magnitude
  pub octet : m.magnitude ≤ 255
  pub count_is : slot ts 1 ≡ m.count
  pub point_is : stored_point ss ≡ m.point
  pub each : (j : ℕ) → j < i → PutAt m j ts ss
  pub behind : KeptBehind m.count a ts s ss

-- one part more
module _
    (m : Model)
    (i : ℕ)
    (a s ts ss us vs : List ℕ)
    (low : i < m.count)
    (before : PutFirst m i a s ts ss)
    (table_put : ComponentPut i (part_at m.parts i).component (part_at m.parts i).ratio
    (get_or m.order i 0) ts us)
    (state_put : StatePut i (part_at m.parts i).state ss vs) where
  -- what was there stays
  kept : (j : ℕ) → j < i → PutAt m j us vs
  unfolding stored_part stored_ratio ordered_part
  kept j low =
      let at = before.each j low in
      let words : (x : ℕ) → x < table_words (j + 1) → slot us x ≡ slot ts x =
      λ x below. table_put.others x (inl (omega arith)) in
      let signals = kept_put ss vs i (part_at m.parts i).state state_put j in
      record {
        part_is =
            rw (
              same_component ts us j words,
              words (18 * j + 18) (omega arith),
              state_kept ss vs i j (part_at m.parts i).state state_put (λ e. omega arith),
            )
            at.part_is;
        number_is = ap (λ (w : ℕ). w % 65536) (words (18 * j + 19) (omega arith)) ∙ at.number_is;
        table_form = component_same ts us j (λ x from to. words x to) ∙ at.table_form;
        state_form = spelled_kept ss vs i j (part_at m.parts i).state state_put (λ e. omega arith) ∙ at.state_form;
        spans_clean = λ x past few.
            words (18 * j + 8 + x) (omega arith) ∙
            at.spans_clean x (omega (arith, words (18 * j + 7) (omega arith))) few;
        held_clean = clean_kept ss vs (9 * j + 5) (9 * j + 6) at.held_clean signals.0;
        output_clean = clean_kept ss vs (9 * j + 7) (9 * j + 8) at.output_clean signals.1;
      }

  -- the part itself is read back
  here : PutAt m i us vs
  unfolding stored_part trimmed_part
  here =
      record {
        part_is = rw (table_put.is, table_put.ratio_is, state_put.is) refl;
        number_is = table_put.number_is;
        table_form = table_put.form;
        state_form = state_put.form;
        spans_clean = table_put.clean;
        held_clean = state_put.held_clean;
        output_clean = state_put.output_clean;
      }

  -- so one part more is put
  pub put_more : PutFirst m (i + 1) a s us vs
  put_more =
      record {
        table_size = table_put.size ∙ before.table_size;
        state_size = state_put.size ∙ before.state_size;
        magnitude_is = table_put.others 0 (inl (omega arith)) ∙ before.magnitude_is;
        octet = before.octet;
        count_is = table_put.others 1 (inl (omega arith)) ∙ before.count_is;
        point_is = point_kept ss vs i (part_at m.parts i).state state_put ∙ before.point_is;
        each = below_more (λ (j : ℕ). PutAt m j us vs) i kept here;
        behind =
            record {
              table = λ x far. table_put.others x (inr (omega arith)) ∙ before.behind.table x far;
              state = λ x far. state_put.others x (inr (omega arith)) ∙ before.behind.state x far;
            };
      }

-- the table of the first n elements of a list
front_of : {A : Type 0} (f : ℕ → A) (l : List A) (d : A) (n : ℕ) → n ≤ length l →
    ((j : ℕ) → j < n → f j ≡ get_or l j d) →
    take n (tabulate f n) ≡ take n l
front_of f l d n long each =
    let many : length (tabulate f n) ≡ length (take n l) = length_table f n ∙ sym (length-take-le n l long) in
    take_all n (tabulate f n) (omega (arith, length_table f n)) ∙
    ext_get_or d (tabulate f n) (take n l) many
    (λ j inside.
    let low : j < n = omega (arith, length_table f n) in
    table_at f n j d low ∙ each j low ∙ sym (get_or-take n l j d low))

-- the first n parts of two lists are equal trimmed where each is
pub trimmed_front :
    (k l : List Part) (n : ℕ) → n ≤ length k → n ≤ length l →
    ((j : ℕ) → j < n → trimmed_part (part_at k j) ≡ trimmed_part (part_at l j)) →
    map trimmed_part (take n k) ≡ map trimmed_part (take n l)
trimmed_front k l n long_k long_l each =
    let size_k : length (map trimmed_part (take n k)) ≡ n = length-map (take n k) trimmed_part ∙
    length-take-le n k long_k in
    let size_l : length (map trimmed_part (take n l)) ≡ n = length-map (take n l) trimmed_part ∙
    length-take-le n l long_l in
    ext_get_or (trimmed_part blank_part) (map trimmed_part (take n k)) (map trimmed_part (take n l))
    (size_k ∙ sym size_l)
    (λ j inside.
    let low : j < n = omega (arith, size_k) in
    at k j low ∙ each j low ∙ sym (at l j low))
  where
    at : (l : List Part) (j : ℕ) → j < n → get_or (map trimmed_part (take n l)) j (trimmed_part blank_part) ≡
        trimmed_part (part_at l j)
    at l j low = get_or-map trimmed_part (take n l) j blank_part ∙ ap trimmed_part (get_or-take n l j blank_part low)

-- models are equal trimmed where each field is, of the places in use
pub trimmed_same :
    (h m : Model) → h.magnitude ≡ m.magnitude → h.count ≡ m.count →
    take m.count h.order ≡ take m.count m.order →
    h.point ≡ m.point → map trimmed_part (take m.count h.parts) ≡
    map trimmed_part (take m.count m.parts) → trimmed h ≡ trimmed m
unfolding trimmed
trimmed_same h m magnitude count order point parts = rw (magnitude, count, order, point, parts) refl

-- once all parts are put, so is the model
pub model_put :
    (m : Model) (a s ts ss : List ℕ) → PutFirst m m.count a s ts ss → m.count ≤ most_parts →
    m.count ≤ length m.order →
    m.count ≤ length m.parts → table_words m.count ≤ length a → state_words m.count ≤ length s →
    ModelPut m ts ss
unfolding model_in
model_put m a s ts ss put few orders parts table_room state_room =
    let n = m.count in
    record {
      is =
          trimmed_same (model_in ts ss) m (omega (arith, put.magnitude_is, put.octet)) put.count_is
          (ap (λ (k : ℕ). take n (tabulate (ordered_part ts) k)) put.count_is ∙
          front_of (ordered_part ts) m.order 0 n orders (λ j low. (put.each j low).number_is))
          put.point_is
          (ap (λ (k : ℕ). map trimmed_part (take n (tabulate (stored_part ts ss) k))) put.count_is ∙
          trimmed_front (tabulate (stored_part ts ss) n) m.parts n
          (omega (arith, length_table (stored_part ts ss) n)) parts
          (λ j low. ap trimmed_part (table_at (stored_part ts ss) n j blank_part low) ∙ (put.each j low).part_is));
      form =
          spelled_parts ts ss
          (record {
            two = omega (arith, put.table_size);
            magnitude = omega (arith, put.magnitude_is, put.octet);
            few = omega (arith, put.count_is);
            table = omega (arith, put.count_is, put.table_size);
            state = omega (arith, put.count_is, put.state_size);
          }) ∙
          parts_all ts ss (part_count ts)
          (λ j low. let at = put.each j (omega (arith, put.count_is)) in (at.table_form, at.state_form));
      clean =
          record {
            spans = λ j low. (put.each j low).spans_clean;
            state = record {
              signals = λ j low. (put.each j low).held_clean;
              outputs =
                  λ j low. (put.each j low).output_clean;
            };
          };
    }
