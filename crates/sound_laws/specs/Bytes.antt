-- Loading the bytes of a table that fits gives the fresh model of that table; so the tables that fit are those that
-- some stream loads. The bytes are read in three sweeps, over the parts, each part's spans, and the wires; each sweep
-- hands on to what is read after it. Assumes nothing.
use Rattle.std.specs.Prelude.{ℕ, suc, ◌+◌, ◌-◌, ◌≤◌, ◌≡◌, Bool, cond, ◌↔◌, get_or}
use Rattle.std.proofs.Common.{arith, sym, ap, ◌∙◌, ltb-true, leb-true, ne_eqb}
use Rattle.std.proofs.Math.Path.{refl}
use Rattle.std.proofs.Math.Bool.{true, false, and-eq-true_iff}
use mathlib.Core.List.{List, [], ◌∷◌, ◌++◌, map, append-nil, append_assoc}
use Rattle.std.proofs.Math.ListN.{length, drop, length-append, length-map}
use Rattle.std.proofs.Math.Seq.{append_snoc}
use Rattle.machine.specs.declared.part.Source.{Source}
use Rattle.machine.specs.declared.part.Source.TheVariants.{Unwired, From}
use Rattle.machine.specs.declared.part.Component.{Component}
use Rattle.machine.specs.Answers.{Loaded}
use Rattle.machine.specs.Lists.{All}
use Rattle.machine.specs.Kind.{ports}
use Rattle.machine.specs.Model.{most_parts, most_spans}
use Rattle.machine.specs.Table.{Table}
use Rattle.machine.specs.Fresh.{fresh}
use Rattle.machine.specs.Load.{wire_byte, end_byte, is_drive, source_of, wired, with_wire, end_refusal, accepted, load}
use Rattle.machine.specs.Sound.{source_fits, spans_rise, table_fits}
use Rattle.machine.specs.TableBytes.{operand_bytes, part_bytes, spans_bytes, parts_bytes, port_bytes, wires_bytes}
use Rattle.machine.specs.TableBytes.{table_bytes}
use Rattle.laws.specs.Last.{length_added, last_of_added}
use Rattle.sound_laws.specs.Facts.{ComponentFits, TableFits, table_facts}
use Rattle.sound_laws.specs.FreshSound.{fresh_apart}
use Rattle.sound_laws.specs.Accepted.{load_fits}
use Rattle.sound_laws.specs.Octets.{Octet, table_octets}
use Rattle.sound_laws.specs.Seams.{further, read_all}
use Rattle.sound_laws.specs.Commands.{so_far, shaped, reads_begin, reads_part, reads_span, reads_wire, reads_end}

-- a component as the parts' sweep leaves it
abbrev unwired : Component → Component
unwired c = shaped c c.spans Unwired Unwired

-- a component with a port wired to the source, if there is one
abbrev wired_to : Component → ℕ → Source → Component
wired_to c port Unwired = c
wired_to c port (From k) = with_wire c port k

-- the wires' sweep wires port 0 ..
wired_first : (c : Component) (source : Source) → wired_to (unwired c) 0 source ≡ shaped c c.spans source Unwired
unfolding with_wire
wired_first c Unwired = refl
wired_first c (From k) = refl

-- .. and then port 1 ..
wired_second : (c : Component) (source : Source) → wired_to (shaped c c.spans c.port0 Unwired) 1 source ≡
    shaped c c.spans c.port0 source
unfolding with_wire
wired_second c Unwired = refl
wired_second c (From k) = refl

-- .. which leaves the component
shaped_back : (c : Component) → c.span_count ≡ length c.spans → shaped c c.spans c.port0 c.port1 ≡ c
shaped_back c counted = rw (← counted)

module _ (bs : List ℕ) (e : ℕ) (r : Loaded) where
  -- the spans of a part, after those that were read before; d says whether it is a drive
  reads_spans :
      (d : Bool) (cs : List Component) (c : Component) (before vs : List ℕ) (at : ℕ) (rest : List ℕ) →
      drop at bs ≡ spans_bytes vs ++ rest →
      length before + length vs ≤ cond d most_spans 0 → spans_rise (get_or before (length before - 1) 0) vs ≡ true →
      ((next : ℕ) → drop next bs ≡ rest →
      read_all bs next (so_far d e (cs ++ (shaped c (before ++ vs) Unwired Unwired ∷ []))) ≡ r) →
      read_all bs at (so_far d e (cs ++ (shaped c before Unwired Unwired ∷ []))) ≡ r
  unfolding spans_bytes spans_rise operand_bytes
  reads_spans d cs c before [] at rest h room rise then = rw append-nil at (then at h)
  reads_spans true cs c before (v ∷ vs) at rest h room rise then =
      let ((above, most), more) = simp and-eq-true_iff at rise in
      reads_span bs at v (spans_bytes vs ++ rest) e cs c before h (omega arith)
      (ltb-true (get_or before (length before - 1) 0) v above) (leb-true v 1_000_000_000 most) ∙
      reads_spans true cs c (before ++ (v ∷ [])) vs (at + 5) rest (further bs at 5 (spans_bytes (v ∷ vs) ++ rest) h)
      (omega (arith, length_added before v)) (rw (last_of_added before v 0) more) (rw (append_snoc before v vs) then)
  reads_spans false cs c before (v ∷ vs) at rest h room rise then = absurd (omega arith)

  -- the parts, each with its spans after it
  reads_parts :
      (n : ℕ) (s : Bool) (done cs : List Component) (at : ℕ) (rest : List ℕ) → drop at bs ≡ parts_bytes cs ++ rest →
      All (ComponentFits n) cs →
      length done + length cs ≤ most_parts →
      ((next : ℕ) (s : Bool) → drop next bs ≡ rest → read_all bs next (so_far s e (done ++ map unwired cs)) ≡ r) →
      read_all bs at (so_far s e done) ≡ r
  unfolding parts_bytes part_bytes operand_bytes
  reads_parts n s done [] at rest h fit room then = rw append-nil at (then at s h)
  reads_parts n s done (c ∷ cs) at rest h fit room then =
      let f = fit.0 in
      let places = f.places in
      let behind = spans_bytes c.spans ++ (parts_bytes cs ++ rest) in
      let here : drop at bs ≡ part_bytes c ++ behind =
      rw (append_assoc (spans_bytes c.spans) (parts_bytes cs) rest) at h in
      reads_part bs at c behind s e done here f.preference f.operands (omega arith) ∙
      reads_spans (is_drive c.kind) done c [] c.spans (at + 15) (parts_bytes cs ++ rest)
      (further bs at 15 (part_bytes c ++ behind) here)
      (omega arith) f.rise
      (λ next g.
      reads_parts n (is_drive c.kind) (done ++ (unwired c ∷ [])) cs next rest g fit.1
      (omega (arith, length_added done (unwired c)))
      (rw (append_snoc done (unwired c) (map unwired cs)) then))

  -- a port of the part after the components done
  reads_port :
      (n : ℕ) (s : Bool) (done : List Component) (c : Component) (ds : List Component) (port : ℕ) (source : Source)
      (at : ℕ) (rest : List ℕ) →
      n ≡ length (done ++ (c ∷ ds)) → drop at bs ≡ port_bytes (length done) port source ++ rest →
      source_fits n (ports c.kind) port source ≡ true → wired (source_of c port) ≡ false →
      ((next : ℕ) (s : Bool) → drop next bs ≡ rest →
      read_all bs next (so_far s e (done ++ (wired_to c port source ∷ ds))) ≡ r) →
      read_all bs at (so_far s e (done ++ (c ∷ ds))) ≡ r
  unfolding port_bytes source_fits
  reads_port n s done c ds port Unwired at rest count h fit free then = then at s h
  reads_port n s done c ds port (From k) at rest count h fit free then =
      let (known, there) = simp and-eq-true_iff at fit in
      reads_wire bs at k port rest s e done c ds h (rw count at (ltb-true k n there))
      (ltb-true port (ports c.kind) known) free ∙
      then (at + 4) false (further bs at 4 (wire_byte ∷ k ∷ length done ∷ port ∷ rest) h)

  -- the wires, by receiving part
  reads_wires :
      (s : Bool) (done cs : List Component) (at : ℕ) (rest : List ℕ) →
      drop at bs ≡ wires_bytes (length done) cs ++ rest →
      All (ComponentFits (length (done ++ cs))) cs →
      ((next : ℕ) (s : Bool) → drop next bs ≡ rest → read_all bs next (so_far s e (done ++ cs)) ≡ r) →
      read_all bs at (so_far s e (done ++ map unwired cs)) ≡ r
  unfolding wires_bytes source_of
  reads_wires s done [] at rest h fit then = then at s h
  reads_wires s done (c ∷ cs) at rest h fit then =
      let k = length done in
      let f = fit.0 in
      let ds = map unwired cs in
      let second = port_bytes k 1 c.port1 ++ (wires_bytes (suc k) cs ++ rest) in
      let here : drop at bs ≡ port_bytes k 0 c.port0 ++ second =
      rw (
        append_assoc (port_bytes k 0 c.port0) (port_bytes k 1 c.port1 ++ wires_bytes (suc k) cs) rest,
        append_assoc (port_bytes k 1 c.port1) (wires_bytes (suc k) cs) rest,
      ) at h in
      let count : (d : Component) → length (done ++ (c ∷ cs)) ≡ length (done ++ (d ∷ ds)) =
      λ d. omega (arith, length-append done (c ∷ cs), length-append done (d ∷ ds), length-map cs unwired) in
      reads_port (length (done ++ (c ∷ cs))) s done (unwired c) ds 0 c.port0 at second (count (unwired c)) here
      f.port0 refl
      (λ next s g.
      rw (wired_first c c.port0)
      (reads_port (length (done ++ (c ∷ cs))) s done (shaped c c.spans c.port0 Unwired) ds 1 c.port1 next
      (wires_bytes (suc k) cs ++ rest)
      (count (shaped c c.spans c.port0 Unwired)) g f.port1 refl
      (λ next s g.
      rw (wired_second c c.port1, shaped_back c f.counted, ← append_snoc done c ds)
      (reads_wires s (done ++ (c ∷ [])) cs next rest (rw (length_added done c) g) (rw (append_snoc done c cs) fit.1)
      (rw (append_snoc done c cs) then)))))

-- End refuses no table that fits
end_none : (t : Table) → TableFits t → end_refusal t ≡ 0
unfolding end_refusal
end_none t f =
    let some = f.some in
    rw (ne_eqb (length t.parts) 0 (λ none. omega arith), f.periods, f.order)

-- loading the bytes of a table that fits ends at their end with the fresh model of that table
pub loads_back : (t : Table) → table_fits t ≡ true → load (table_bytes t) ≡ accepted (length (table_bytes t) - 1) t
unfolding load table_bytes
loads_back t h =
    let bs = table_bytes t in
    let e = t.magnitude in
    let cs = t.parts in
    let r = accepted (length bs - 1) t in
    let f = table_facts t h in
    let few = f.few in
    let fit = f.components in
    reads_begin bs 0 e (parts_bytes cs ++ (wires_bytes 0 cs ++ (end_byte ∷ []))) refl f.magnitude ∙
    reads_parts bs e r (length cs) false [] cs (0 + 2) (wires_bytes 0 cs ++ (end_byte ∷ []))
    (further bs 0 2 bs refl) fit (omega arith)
    (λ next s g.
    reads_wires bs e r s [] cs next (end_byte ∷ []) g fit
    (λ next s g. reads_end bs next s t g (end_none t f)))

-- a table fits exactly where some stream of bytes loads to its fresh model
pub fits_iff_loads :
    (t : Table) → (table_fits t ≡ true) ↔ ((bs : List ℕ) × All Octet bs × ((load bs).number ≡ 0) ×
    ((load bs).model ≡ fresh t))
unfolding accepted
fits_iff_loads t = (written, fitting)
  where
    -- the table's bytes are such a stream
    written : table_fits t ≡ true → (bs : List ℕ) × All Octet bs × ((load bs).number ≡ 0) × ((load bs).model ≡ fresh t)
    written h = (
      table_bytes t,
      table_octets t h,
      ap (λ (r : Loaded). r.number) (loads_back t h),
      ap (λ (r : Loaded). r.model) (loads_back t h),
    )

    -- a stream that loads is that of a table that fits, and the fresh model keeps its table
    fitting : (bs : List ℕ) × All Octet bs × ((load bs).number ≡ 0) × ((load bs).model ≡ fresh t) → table_fits t ≡ true
    fitting (bs, octets, none, same) =
        let (u, fit, is) = load_fits bs none in
        rw (fresh_apart u t (sym is ∙ same)) at fit
