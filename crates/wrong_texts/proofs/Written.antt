-- A text that a faithful call appended keeps the promise.
use Rattle.std.proofs.Common.{◌≡◌, refl, subst, sym}
use Rattle.std.proofs.lemmas.List.{append_cancel_left}
use Rattle.wgsl_text.specs.Reading.{HasOneReading, Reads}
use Rattle.wrong_texts.specs.Promise.{WritingKeepsPromise}

pub keeps : WritingKeepsPromise
keeps m info flags content text before after writing matches =
    let own = writing.reading in
    let same : own.text ≡ text = append_cancel_left content own.text text (sym own.appended) in
    let reading : HasOneReading Reads text own.program =
    subst (λ t. HasOneReading Reads t own.program) same own.reading in
    let told = matches text refl own.program reading.read in
    record {
      program = own.program;
      reading = reading;
      interface = writing.interface text refl own.program reading.read;
      lets = told.lets;
      resolution = told.resolution;
      runs = writing.runs text refl own.program reading.read;
    }
