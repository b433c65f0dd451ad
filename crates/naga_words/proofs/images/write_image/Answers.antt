use Rattle.naga_words.proofs.SegmentWriting.{spells_any}
use Rattle.naga_words.proofs.images.write_image.Goals as goal

pub returns-in-Depth : goal.returns-in-Depth
returns-in-Depth g c =
    rw (c.in-Depth.is, ← c.depth_image_str.ensures) (spells_any c.write_word.ensures)

pub returns-in-Storage : goal.returns-in-Storage
returns-in-Storage g c =
    rw (c.in-Storage.is, ← c.storage_image_str.ensures, ← c.to_wgsl.ensures, ← c.image_access_str.ensures)
    (spells_any c.write_storage_image.ensures)
