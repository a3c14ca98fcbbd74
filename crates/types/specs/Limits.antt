use Rattle.types.specs.declared.bounds.Bounds.{Bounds}

-- Every bound of the product.
abbrev pub limits : Bounds
limits =
    record {
      key_bytes = 64;
      scalar_bytes = 256;
      splice_bytes = 32768;
      last_position = 1048575;
      deletion_length = 1048576;
      path_steps = 16;
      log_events = 2048;
      log_exposed = 256;
      log_bytes = 32768;
      builder_patches = 4096;
      builder_values = 4096;
      builder_units = 32768;
      builder_bytes = 32768;
      value_entries = 4096;
      value_units = 32768;
      value_bytes = 32768;
      queue_places = 1280;
      document_objects = 1024;
      record_bytes = 65536;
    }
