-- A file is accepted exactly when it is the file of the table that is read.
use Rattle.std.proofs.Common.{◌≡◌, ℕ, ltb, ◌↔◌, List, [], ◌++◌, length, drop, Ok, sym, refl, ap, ◌∙◌, subst, arith}
use Rattle.std.specs.List.{flat_map, AllByRecursion}
use Rattle.std.proofs.lemmas.List.{append_assoc, append-nil, drop_all, length-drop}
use Rattle.std.proofs.lemmas.Bool.{ltb-false, le-ltb}
use Rattle.table.specs.System.{System, size}
use Rattle.format.specs.Walk.{decode, states_section, states_end, links_section, links_end}
use Rattle.format.specs.Encode.{FileOf, bytes_of, state_bytes, link_bytes, encode}
use Rattle.fault.specs.declared.TableFault.TheVariants.{States, Links}
use Rattle.format.proofs.Bytes.{Byte, passed, first_read, join}
use Rattle.format.proofs.Items.{section_bytes, states_section_lem, links_section_lem}

-- the sections of a file
sections : System → List ℕ
sections t = section_bytes state_bytes t.states ++ section_bytes link_bytes t.links

encode_sections : (t : System) → sections t ≡ encode t
unfolding sections encode
encode_sections t = append_assoc (bytes_of 2 (size t)) (flat_map state_bytes t.states) (section_bytes link_bytes t.links)

module _ (bytes : List ℕ) (all : AllByRecursion Byte bytes) where
  accepts_sound : (t : System) → decode bytes ≡ Ok t → FileOf t bytes
  unfolding sections
  accepts_sound t h =
      first_read States (states_section bytes) _ t h λ states a h.
      first_read Links (links_section (length states) bytes (states_end (length states))) _ t h λ links b h.
      passed (ltb (links_end (length states) (length links)) (length bytes)) _ _ t h λ over h.
      let n : ℕ = length states in
      let end : ℕ = links_end n (length links) in
      let u : System = record { states = states; links = links } in
      let s = (states_section_lem bytes all).sound states (states_end n) (omega arith) a in
      let k = (links_section_lem bytes all n (states_end n) s.0).sound links end refl b in
      let both : bytes ≡ sections u ++ drop end bytes = join bytes 0 (states_end n) end (section_bytes state_bytes states) (section_bytes link_bytes links) s.2 k.2 in
      let none = drop_all end bytes (ltb-false end (length bytes) over) in
      let is : u ≡ t = cc in
      subst (λ v. FileOf v bytes) is
      (record {
        lawful = record { states = s.1; links = k.1 };
        small = record { states = s.0; links = k.0 };
        written = both ∙ ap (λ rest. sections u ++ rest) none ∙ append-nil (sections u) ∙ encode_sections u;
      })

  accepts_complete : (t : System) → FileOf t bytes → decode bytes ≡ Ok t
  unfolding sections
  accepts_complete t f =
      let end : ℕ = links_end (size t) (length t.links) in
      let links : List ℕ = section_bytes link_bytes t.links in
      let s = (states_section_lem bytes all).complete t.states (states_end (size t)) links (omega arith) f.small.states f.lawful.states (f.written ∙ sym (encode_sections t)) in
      let k = (links_section_lem bytes all (size t) (states_end (size t)) f.small.states).complete t.links end [] refl f.small.links f.lawful.links (s.1 ∙ sym (append-nil links)) in
      rw (s.0, k.0, le-ltb end (length bytes) (omega (arith, length-drop end bytes, ap length k.1)))

pub accepts : (bytes : List ℕ) → AllByRecursion Byte bytes → (t : System) → (decode bytes ≡ Ok t) ↔ FileOf t bytes
accepts bytes all t = (accepts_sound bytes all t, accepts_complete bytes all t)
