-- A text behind `fsimage_` is read by what stands behind its id.
use Rattle.std.proofs.Common.{◌≡◌, sym, refl, true, false}
use Rattle.std.specs.Prelude.{codes}
use Rattle.std.specs.Str.{bytes_eq}
use Rattle.nn_base.proofs.FileTextLemmas.{image_read, image_unread, not_empty}
use Rattle.nn_base.proofs.file_name.parse.image.Goals as goal

pub returns-in_err-id : goal.returns-in_err-id
returns-in_err-id c = rw c.from_residual.ensures (image_unread c.args.rest.now c.in_err-id.ensures.only)

pub returns-then-eq : goal.returns-then-eq
returns-then-eq c =
    let some = not_empty c.in_ok-id.back.now c.if-is_empty.ensures in
    let md5 : bytes_eq c.in_ok-id.back.now (codes ".md5") ≡ true = rw c.as_slice.ensures at (sym c.if-eq.ensures) in
    image_read c.args.rest.now c.in_ok-id.id c.in_ok-id.back.now _ c.in_ok-id.ensures.found.0 c.in_ok-id.ensures.found.1 (rw (some, md5) refl)

pub returns-then-eq-2 : goal.returns-then-eq-2
returns-then-eq-2 c =
    let some = not_empty c.in_ok-id.back.now c.if-is_empty.ensures in
    let md5 : bytes_eq c.in_ok-id.back.now (codes ".md5") ≡ false = rw c.as_slice.ensures at (sym c.if-eq.ensures) in
    let tmp : bytes_eq c.in_ok-id.back.now (codes ".md5.tmp") ≡ true = rw c.as_slice-2.ensures at (sym c.if-eq-2.ensures) in
    image_read c.args.rest.now c.in_ok-id.id c.in_ok-id.back.now _ c.in_ok-id.ensures.found.0 c.in_ok-id.ensures.found.1 (rw (some, md5, tmp) refl)

pub returns : goal.returns
returns c =
    let some = not_empty c.in_ok-id.back.now c.if-is_empty.ensures in
    let md5 : bytes_eq c.in_ok-id.back.now (codes ".md5") ≡ false = rw c.as_slice.ensures at (sym c.if-eq.ensures) in
    let tmp : bytes_eq c.in_ok-id.back.now (codes ".md5.tmp") ≡ false = rw c.as_slice-2.ensures at (sym c.if-eq-2.ensures) in
    image_read c.args.rest.now c.in_ok-id.id c.in_ok-id.back.now _ c.in_ok-id.ensures.found.0 c.in_ok-id.ensures.found.1 (rw (some, md5, tmp) refl)
