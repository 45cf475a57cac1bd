-- The octets after a text fill it.
use Rattle.std.proofs.Common.{◌≡◌, ◌-◌, ◌≤◌, ◌∙◌, length, take, drop, replicate, ap, refl, sym, arith}
use Rattle.std.proofs.lemmas.List.{drop-replicate, length-take-le, take-replicate}
use Rattle.bufr_fields.specs.declared.field.Raw.TheVariants.{Text}
use Rattle.bufr_data.proofs.CompressedFacts.Lent.{filled_own, filled_room}
use Rattle.bufr_data.proofs.compressed.lent_text.fill_text.Goals.{then-are_ones, else-are_ones}
use Rattle.bufr_data.proofs.compressed.lent_text.fill_text.Goals as goal

pub returns-then-own-octets : goal.returns-then-own-octets
returns-then-own-octets c =
    let same = c.if-own-octets.true in
    ap (λ n. Text (take n c.args.room.now)) (sym same)
    ∙ filled_own c.args.octets (take c.args.own c.args.room.now)
    (length-take-le c.args.own c.args.room.now
    (omega (arith, c.told-room, c.requires.shorter, c.requires.inside)) ∙ same)

pub returns : goal.returns
returns c =
    let own = c.args.own in
    let octets = c.args.octets in
    let filler = c.if-are_ones.filler in
    let within : own ≤ length c.args.room.now =
    omega (arith, c.told-room, c.requires.shorter, c.requires.inside) in
    let piece : c.copy_from_slice.new.self ≡ replicate (octets - own) filler =
    c.copy_from_slice.ensures.after ∙ ap (take (octets - own)) (drop-replicate own 71 filler)
    ∙ take-replicate (octets - own) (71 - own) filler (omega (arith, c.requires.inside)) in
    let rest = drop (octets - own) (drop own c.args.room.now) in
    elim c.if-are_ones.branch [
      | then-are_ones w ↦
          filled_room octets own filler _ c.args.room.now _ c.copy_from_slice.new.self rest within
          c.requires.shorter (sym w.if-are_ones.ensures) w.filler-is piece refl
      | else-are_ones w ↦
          filled_room octets own filler _ c.args.room.now _ c.copy_from_slice.new.self rest within
          c.requires.shorter (sym w.if-are_ones.ensures) w.filler-is piece refl
    ]
